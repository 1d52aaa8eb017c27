use Rattle.bulk.specs.Lists.{fills}
use Rattle.heap_shared.proofs.Listing.{makes_with}
use Rattle.heap_shared.proofs.shared_heap.SharedHeap.new_with.Goals as goal

pub returns : goal.returns
returns c =
    makes_with c.args.mutator c.args.dst c.args.shape (fills c.args.dst c.args.refs.now c.args.words.now) c.args.self.now c.make.new.self c.fill_made.new.heap c.in_ok-made.made c.fill_made.result c.in_ok-made.ensures c.fill_made.ensures
