use Rattle.std.proofs.Common.{sym, subst}
use Rattle.graph_heap.specs.declared.command.Command.{Command}
use Rattle.machine.specs.Plan.{Steps}
use Rattle.machine.proofs.heap.Heap.step.Goals as goal

pub returns-in-New-dispatch : goal.returns-in-New-dispatch
returns-in-New-dispatch c =
    let s = subst (λ (x : Command). Steps c.args.self.now c.args.mutator x c.dispatch-make.result c.dispatch-make.new.self) (sym c.in-New-dispatch.is) c.dispatch-make.ensures in
    record { reply = s.reply; agrees = s.agrees; does = s.does }

pub returns-in-Load-dispatch : goal.returns-in-Load-dispatch
returns-in-Load-dispatch c =
    let s = subst (λ (x : Command). Steps c.args.self.now c.args.mutator x c.dispatch-load.result c.dispatch-load.new.self) (sym c.in-Load-dispatch.is) c.dispatch-load.ensures in
    record { reply = s.reply; agrees = s.agrees; does = s.does }

pub returns-in-Store-dispatch : goal.returns-in-Store-dispatch
returns-in-Store-dispatch c =
    let s = subst (λ (x : Command). Steps c.args.self.now c.args.mutator x c.dispatch-store.result c.dispatch-store.new.self) (sym c.in-Store-dispatch.is) c.dispatch-store.ensures in
    record { reply = s.reply; agrees = s.agrees; does = s.does }

pub returns-in-CompareStore-dispatch : goal.returns-in-CompareStore-dispatch
returns-in-CompareStore-dispatch c =
    let s = subst (λ (x : Command). Steps c.args.self.now c.args.mutator x c.dispatch-compare_store.result c.dispatch-compare_store.new.self) (sym c.in-CompareStore-dispatch.is) c.dispatch-compare_store.ensures in
    record { reply = s.reply; agrees = s.agrees; does = s.does }

pub returns-in-Get-dispatch : goal.returns-in-Get-dispatch
returns-in-Get-dispatch c =
    let s = subst (λ (x : Command). Steps c.args.self.now c.args.mutator x c.dispatch-get.result c.dispatch-get.new.self) (sym c.in-Get-dispatch.is) c.dispatch-get.ensures in
    record { reply = s.reply; agrees = s.agrees; does = s.does }

pub returns-in-Put-dispatch : goal.returns-in-Put-dispatch
returns-in-Put-dispatch c =
    let s = subst (λ (x : Command). Steps c.args.self.now c.args.mutator x c.dispatch-put.result c.dispatch-put.new.self) (sym c.in-Put-dispatch.is) c.dispatch-put.ensures in
    record { reply = s.reply; agrees = s.agrees; does = s.does }

pub returns-in-ComparePut-dispatch : goal.returns-in-ComparePut-dispatch
returns-in-ComparePut-dispatch c =
    let s = subst (λ (x : Command). Steps c.args.self.now c.args.mutator x c.dispatch-compare_put.result c.dispatch-compare_put.new.self) (sym c.in-ComparePut-dispatch.is) c.dispatch-compare_put.ensures in
    record { reply = s.reply; agrees = s.agrees; does = s.does }

pub returns-in-Copy-dispatch : goal.returns-in-Copy-dispatch
returns-in-Copy-dispatch c =
    let s = subst (λ (x : Command). Steps c.args.self.now c.args.mutator x c.dispatch-copy.result c.dispatch-copy.new.self) (sym c.in-Copy-dispatch.is) c.dispatch-copy.ensures in
    record { reply = s.reply; agrees = s.agrees; does = s.does }

pub returns-in-Clear-dispatch : goal.returns-in-Clear-dispatch
returns-in-Clear-dispatch c =
    let s = subst (λ (x : Command). Steps c.args.self.now c.args.mutator x c.dispatch-clear.result c.dispatch-clear.new.self) (sym c.in-Clear-dispatch.is) c.dispatch-clear.ensures in
    record { reply = s.reply; agrees = s.agrees; does = s.does }

pub returns-in-LoadStatic-dispatch : goal.returns-in-LoadStatic-dispatch
returns-in-LoadStatic-dispatch c =
    let s = subst (λ (x : Command). Steps c.args.self.now c.args.mutator x c.dispatch-load_static.result c.dispatch-load_static.new.self) (sym c.in-LoadStatic-dispatch.is) c.dispatch-load_static.ensures in
    record { reply = s.reply; agrees = s.agrees; does = s.does }

pub returns-in-StoreStatic-dispatch : goal.returns-in-StoreStatic-dispatch
returns-in-StoreStatic-dispatch c =
    let s = subst (λ (x : Command). Steps c.args.self.now c.args.mutator x c.dispatch-store_static.result c.dispatch-store_static.new.self) (sym c.in-StoreStatic-dispatch.is) c.dispatch-store_static.ensures in
    record { reply = s.reply; agrees = s.agrees; does = s.does }

pub returns-in-CompareStatic-dispatch : goal.returns-in-CompareStatic-dispatch
returns-in-CompareStatic-dispatch c =
    let s = subst (λ (x : Command). Steps c.args.self.now c.args.mutator x c.dispatch-compare_static.result c.dispatch-compare_static.new.self) (sym c.in-CompareStatic-dispatch.is) c.dispatch-compare_static.ensures in
    record { reply = s.reply; agrees = s.agrees; does = s.does }

pub returns-in-Same-dispatch : goal.returns-in-Same-dispatch
returns-in-Same-dispatch c =
    let s = subst (λ (x : Command). Steps c.args.self.now c.args.mutator x c.dispatch-same.result c.dispatch-same.new.self) (sym c.in-Same-dispatch.is) c.dispatch-same.ensures in
    record { reply = s.reply; agrees = s.agrees; does = s.does }

pub returns-in-Describe-dispatch : goal.returns-in-Describe-dispatch
returns-in-Describe-dispatch c =
    let s = subst (λ (x : Command). Steps c.args.self.now c.args.mutator x c.dispatch-describe.result c.dispatch-describe.new.self) (sym c.in-Describe-dispatch.is) c.dispatch-describe.ensures in
    record { reply = s.reply; agrees = s.agrees; does = s.does }

pub returns-in-Join-dispatch : goal.returns-in-Join-dispatch
returns-in-Join-dispatch c =
    let s = subst (λ (x : Command). Steps c.args.self.now c.args.mutator x c.dispatch-join.result c.dispatch-join.new.self) (sym c.in-Join-dispatch.is) c.dispatch-join.ensures in
    record { reply = s.reply; agrees = s.agrees; does = s.does }

pub returns-in-Leave-dispatch : goal.returns-in-Leave-dispatch
returns-in-Leave-dispatch c =
    let s = subst (λ (x : Command). Steps c.args.self.now c.args.mutator x c.dispatch-leave.result c.dispatch-leave.new.self) (sym c.in-Leave-dispatch.is) c.dispatch-leave.ensures in
    record { reply = s.reply; agrees = s.agrees; does = s.does }
