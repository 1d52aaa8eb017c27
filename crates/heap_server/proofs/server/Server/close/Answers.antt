use Rattle.std.proofs.Common.{◌≡◌, List, sym, ◌∙◌, arith, subst}
use mathlib.Core.List.{IsPrefix}
use Rattle.std.specs.List.{All}
use Rattle.graph_heap.specs.declared.command.Entry.{Entry}
use Rattle.heap_server.specs.Seen.{IsKnown}
use Rattle.heap_server.proofs.Fronts.{prefix_trans, prefix_whole}
use Rattle.heap_server.proofs.Closing.{seats_in, known_all, known_grows, all_seen, each_begins, counted_told}
use Rattle.heap_server.proofs.server.Server.close.Goals as goal

pub gathered-requires : goal.gathered-requires
gathered-requires g c = omega (arith, seats_in c.args.seats.items g.N.Naming.names.settings.limits.mutators c.requires, c.locked.invariant.0.some, c.args.seats.ok.0)

pub returns-clause-counted : goal.returns-clause-counted
returns-clause-counted g c =
    let parts : c.gathered.result.parts ≡ g.N.Naming.names.settings.limits.mutators = omega (arith, c.gathered.ensures.parts, c.args.seats.ok.0, seats_in c.args.seats.items g.N.Naming.names.settings.limits.mutators c.requires) in
    c.locked.invariant.0.counted ∙ (sym (c.audit-4.ensures.whole parts) ∙ c.gathered.ensures.amount)

pub returns-clause-found : goal.returns-clause-found
returns-clause-found g c =
    let h = c.locked.inside.recorded.course.history in
    let seats = c.args.seats.items in
    let log = c.observe-found.new.self in
    let known = known_all seats c.gathered.new.front c.gathered.ensures.known in
    let first = subst (λ (t : List Entry). IsPrefix t c.gathered.new.front) (c.again-seen.ensures ∙ c.locked.invariant.1) c.gathered.ensures.grows in
    let begins : IsPrefix h log = prefix_trans h c.gathered.new.front log first c.observe-found.ensures.grows in
    let all = known_grows seats c.gathered.new.front log c.observe-found.ensures.grows known in
    record {
      log = log;
      length_is = c.observe-found.ensures.found;
      whole = begins;
      seen = all_seen seats log all;
      begins = each_begins seats h c.gathered.new.front first known;
      told = λ same. (let whole : h ≡ log = prefix_whole h log begins (omega (arith, same, c.observe-found.ensures.found)) in
          counted_told seats h g.N.Naming.names.settings.limits.mutators (subst (λ (t : List Entry). All (IsKnown t) seats) (sym whole) all) c.requires (returns-clause-counted g c));
    }
