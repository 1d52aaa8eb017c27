use Rattle.std.proofs.Common.{List, ap, ◌∙◌, sym}
use Rattle.graph_heap.specs.Graph.{Object, object_of, with_word, put_word}
use Rattle.graph_heap.specs.Stored.{objects_in}
use Rattle.graph_heap.proofs.Numbered.{seen, put_entry, put_nothing}
use Rattle.graph_heap.proofs.reference.objects.Objects.set_word.Goals as goal
use Rattle.graph_heap.proofs.reference.objects.Objects.set_word.Goals.{in-Some, in_default}

pub returns : goal.returns
returns c =
    let es = c.self.inside.by_identity.entries in
    let put = ap (λ (objects : List Object). put_word objects c.args.id c.args.i c.args.value) c.self.view_is in
    elim c.match-get_mut.branch [
      | in-Some w ↦ ap objects_in w.self-inside-is ∙ ap seen (c.get_mut.follows.holds w.set_word_of.new.object).0
          ∙ put_entry es c.self.invariant (λ o. with_word o c.args.i c.args.value) c.args.id w.in-Some.object.now w.set_word_of.new.object (sym w.in-Some.ensures.value) w.set_word_of.ensures ∙ put
      | in_default w ↦ ap objects_in w.self-inside-is ∙ ap (λ m. seen m.entries) c.get_mut.follows.holds-at-none
          ∙ put_nothing es c.self.invariant c.args.id (with_word (object_of (seen es) c.args.id) c.args.i c.args.value) (sym w.in_default.ensures.value) ∙ put
    ]
