use Rattle.std.proofs.Common.{sym, ◌∙◌, ap, ◌≤◌, length}
use Rattle.heap_server.proofs.Adding.{adds_moves}
use Rattle.heap_server.proofs.place.Front.add.Goals as goal

pub compare_exchange-requires : goal.compare_exchange-requires
compare_exchange-requires g c =
    let h = c.args.place.now.word_is in
    let offer = c.plain-offer.ensures in
    let pen = c.no_pen-pen.ensures in
    let known : c.args.at ≤ length c.self.inside.seen.log = rw c.self.view_is c.requires.known in (
      ap (λ w. w.tracked) h,
      c.self.invariant ∙ sym (ap (λ w. w.book) h),
      pen.0 ∙ (c.self.invariant ∙ sym (ap (λ w. w.book) h)),
      offer.0,
      rw (ap (λ w. w.key) h, pen.1, offer.1, offer.3) (adds_moves c.self.inside.seen.log c.args.next.now c.args.at known),
    )
