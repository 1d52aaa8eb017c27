use Rattle.std.proofs.Common.{◌∙◌, ap, Some, Ok, refl}
use Rattle.std.specs.Prelude.{length}
use Rattle.bulk.specs.Lists.{gets}
use Rattle.metronome_c.specs.BulkCalls.{ReadsOwn, ReadsMember}
use Rattle.metronome_c.proofs.Handles.{own_held}
use Rattle.metronome_c.proofs.metronome.Metronome.read_words.Goals as goal

pub returns-then-is_own : goal.returns-then-is_own
returns-then-is_own c =
    let cs = gets c.args.obj c.args.first (length c.args.words.now) in
    own_held (λ h k. ReadsOwn h c.args.mutator cs k (c.args.words.now, c.get_words.new.words) (Ok c.get_words.result)) (λ v w. ReadsMember v c.args.mutator cs w (c.args.words.now, c.get_words.new.words) (Ok c.get_words.result)) c.args.self.now.check _ c.in-Own.own _ (c.lend.ensures.value ∙ ap Some c.in-Own.is)
    ((c.get_words.result, _, refl, refl, (refl, c.get_words.ensures.reads)), c.get_words.ensures.rest)
