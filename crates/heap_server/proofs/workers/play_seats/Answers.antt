use Rattle.std.proofs.Common.{◌≡◌, ◌++◌, length, map, take, drop, ap, sym, subst, ◌∙◌, arith, length-append, List, ℕ}
use Rattle.std.proofs.Math.Seq.{take-append_seam}
use Rattle.heap_server.specs.Views.{SeatView}
use Rattle.heap_server.specs.Seats.{new_seats}
use Rattle.heap_server.specs.Played.{HavePlayed}
use Rattle.heap_server.proofs.Settling.{first_fresh, first_played}
use Rattle.heap_server.proofs.workers.play_seats.Goals as goal

pub play_scripts-requires-clause-fresh : goal.play_scripts-requires-clause-fresh
play_scripts-requires-clause-fresh g c κs within =
    let split = c.split_at_mut-playing in
    first_fresh g.N.Naming.names.settings.limits.mutators split.result.0.now split.result.1.now (sym split.ensures.value ∙ (c.as_mut_slice.ensures.value ∙ c.requires.new))

pub returns : goal.returns
returns g c =
    let n = g.N.Naming.names.settings.limits.mutators in
    let split = c.split_at_mut-playing in
    let front = split.result.0.now in
    let rest = split.result.1.now in
    let seats = c.play_scripts.new.seats ++ rest in
    let all : front ++ rest ≡ new_seats n = sym split.ensures.value ∙ (c.as_mut_slice.ensures.value ∙ c.requires.new) in
    let long : length seats ≡ c.args.seats.len = omega (arith, length-append c.play_scripts.new.seats rest, split.ensures.front_len, split.ensures.back_len, c.play_scripts.auto.seats, ap length c.as_mut_slice.ensures.value, c.args.seats.ok.0) in
    let same : take c.args.seats.len (seats ++ drop (length seats) c.args.seats.items) ≡ seats = ap (λ (k : ℕ). take k (seats ++ drop (length seats) c.args.seats.items)) (sym long) ∙ take-append_seam seats (drop (length seats) c.args.seats.items) in
    let scripts = map (λ s. s.items) c.args.scripts.now in
    subst (λ (all : List SeatView). HavePlayed n scripts all) (sym same) (first_played n scripts front rest c.play_scripts.new.seats all c.play_scripts.ensures.mutators c.play_scripts.ensures.played)
