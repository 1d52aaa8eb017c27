use Rattle.std.proofs.Common.{List, ℕ, ◌∙◌, map, subst, refl, sym, Some, rules}
use Rattle.std.specs.Prelude.{codes}
use Rattle.std.specs.List.{AllZip}
use Rattle.clap.specs.Words.{found_of}
use Rattle.command_line.specs.Words.{IsNumber}
use Rattle.command_line.proofs.Found.{all_found, words_in}
use Rattle.command_line.proofs.words.run_job.Goals as goal

pub returns-in_ok-windows_of-in-mmu-clause-asked : goal.returns-in_ok-windows_of-in-mmu-clause-asked
returns-in_ok-windows_of-in-mmu-clause-asked c =
    let windows = c.in_ok-windows_of-in-mmu.field-0.items in
    let texts = words_in c.get_strs.result (λ s. map (λ v. v.now) s.now) _ _ c.unwrap_or.result (c.get_strs.ensures ∙ sym (all_found (found_of c.args.found.now) (codes "WINDOW"))) refl c.unwrap_or.ensures in
    (search rules, subst (λ (words : List (List ℕ)). AllZip (λ word ticks. IsNumber 64 (Some word) (Some ticks)) words windows) texts c.in_ok-windows_of-in-mmu.ensures.each)
