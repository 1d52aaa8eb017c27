use Rattle.std.proofs.Common.{ap, ◌∙◌}
use Rattle.pictures.specs.Data.{samples_table}
use Rattle.pictures.proofs.data.samples_text.Goals as goal

pub returns : goal.returns
returns c =
    let samples = c.in_ok-samples.samples in
    (samples.stride, samples.items.items, c.in_ok-samples.ensures, c.in_ok-samples_table.ensures ∙ ap (samples_table samples.stride) c.as_slice.ensures.value)
