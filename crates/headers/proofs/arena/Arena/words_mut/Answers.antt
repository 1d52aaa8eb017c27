use Rattle.std.proofs.Common.{◌++◌, length, take, drop, ap, ◌∙◌, refl}
use Rattle.headers.specs.Lending.{with_words}
use Rattle.headers.specs.Memory.{Memory}
use Rattle.headers.proofs.arena.Arena.words_mut.Goals as goal

pub returns : goal.returns
returns c = (
  (
    refl,
    λ words. ap (λ n. let a : Memory = record { words = take n (words ++ drop (length words) c.self.inside.words.items); pages = c.self.inside.pages } in a) c.self.inside.words.ok.0
        ∙ ap (λ (a : Memory). with_words a words) c.self.view_is,
  ),
  record { writes_back = tt; value = c.as_mut_slice.ensures.value ∙ ap (λ (a : Memory). a.words) c.self.view_is },
)
