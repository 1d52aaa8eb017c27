use Rattle.std.proofs.Common.{◌≡◌, ◌∙◌, ap, refl, true, codes}
use Rattle.clap.specs.Words.{Shape, app_of, new_app}
use Rattle.clap.specs.Simple.{app_of_fields, on_top}
use Rattle.command_line.specs.Program.{play, check, threads, inspect, cycles, path, mmu, draw, pages, plan}
use Rattle.command_line.proofs.commands.program.Goals as goal

pub returns : goal.returns
returns c =
    let named : app_of c.new.result ≡ new_app (codes "metronome") = c.new.ensures.app in
    let told : app_of c.about.result ≡ new_app (codes "metronome") = ap app_of_fields c.about.ensures ∙ named in
    let versioned = ap app_of_fields c.version.ensures ∙ ap (on_top (λ (s : Shape). record s { has_version = true })) told in
    let none = ap app_of_fields c.subcommand_required-top.ensures ∙ ap (on_top (λ (s : Shape). record s { subcommand_required = true })) versioned in
    let with_play = c.with_subcommand-program.ensures _ play refl none c.play.ensures in
    let with_check = c.with_subcommand-program-2.ensures _ check refl with_play c.check.ensures in
    let with_threads = c.with_subcommand-program-3.ensures _ threads refl with_check c.threads.ensures in
    let with_inspect = c.with_subcommand-program-4.ensures _ inspect refl with_threads c.inspect.ensures in
    let with_cycles = c.with_subcommand-program-5.ensures _ cycles refl with_inspect c.cycles.ensures in
    let with_path = c.with_subcommand-program-6.ensures _ path refl with_cycles c.path.ensures in
    let with_mmu = c.with_subcommand-program-7.ensures _ mmu refl with_path c.mmu.ensures in
    let with_draw = c.with_subcommand-program-8.ensures _ draw refl with_mmu c.draw.ensures in
    let with_pages = c.with_subcommand-program-9.ensures _ pages refl with_draw c.pages.ensures in
    c.with_subcommand.ensures _ plan refl with_pages c.plan.ensures
