use Rattle.std.proofs.Common.{rules, ◌≡◌, ◌≤◌, ◌<◌, sym, ap, ◌∙◌, subst, arith}
use Rattle.atomic_table.specs.Table.{Me}
use Rattle.heap_shared.specs.declared.rule.Known.{Known}
use Rattle.heap_shared.specs.Ring.{Ringed}
use Rattle.heap_shared.proofs.Turns.{cuts}
use Rattle.heap_shared.proofs.Splitting.{splits}
use Rattle.heap_shared.proofs.Members.{carries_none}
use Rattle.heap_shared.proofs.member.Member.another.Goals as goal

pub compare_exchange-requires : goal.compare_exchange-requires
compare_exchange-requires c =
    let d = c.deref.ensures in
    let words : 16 < c.deref.result.now.shared.table_id.words = subst (λ t. 16 < t.shared.table_id.words) (sym d) c.self.invariant.1 in
    let key = c.deref.result.now.shared.key in
    let n = c.from-cut.result in
    let out = carries_none _ _ _ c.if-self.false c.self.invariant.5 in
    let id = c.self.inside.seat.id in
    let me = c.self.inside.seat.me in (
      c.self.invariant.0 ∙ sym (ap (λ t. t.shared.table_id) d),
      words,
      cuts key _ id n me out.0 out.1,
    )

pub split_seat-seat-requires : goal.split_seat-seat-requires
split_seat-seat-requires c =
    let d = c.deref-2.ensures in
    let words : 16 < c.deref-2.result.now.shared.table_id.words = subst (λ t. 16 < t.shared.table_id.words) (sym d) c.self.invariant.1 in
    let key = c.deref-2.result.now.shared.key in
    let out = carries_none _ _ _ c.if-self.false c.self.invariant.5 in
    let seat = c.compare_exchange.new.seat in
    let did = c.compare_exchange.ensures in
    let from : c.from-cut.result ≡ c.args.from = search rules in
    let low : c.self.inside.from ≤ c.args.from = search rules in
    let high : c.args.from ≤ c.self.inside.to = search rules in
    let cut = ap (λ (y : Me Ringed Known). y.0.cut) did.2 in
    let starts = ap (λ (y : Me Ringed Known). y.0.from) did.2 in
    let ends = ap (λ (y : Me Ringed Known). y.0.to) did.2 in (
      did.0 ∙ (c.self.invariant.0 ∙ sym (ap (λ t. t.shared.table_id) d)),
      omega (arith, words),
      splits key seat.id seat.me.0 _ (ap (λ (y : Me Ringed Known). y.0.config) did.2 ∙ c.self.invariant.2) (ap (λ (y : Me Ringed Known). y.0.inside) did.2 ∙ out.1)
          (omega (arith, cut, starts, from, low, c.self.invariant.3))
          (omega (arith, cut, ends, from, high, c.self.invariant.4)),
    )
