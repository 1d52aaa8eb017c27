use Rattle.std.proofs.Common.{◌≡◌, ℕ, ◌<◌, ◌≤◌, length, replicate, Option, None}
use Rattle.pages.specs.declared.page.PageRow.{PageRow}
use Rattle.pages.specs.BitRow.{has_bit, room_of}
use Rattle.pages.specs.Index.{class_bit, room_of_class}
use Rattle.pages.proofs.table.PageTable.new.Given as goal

abbrev pub invariant-rows : goal.invariant-rows
invariant-rows l = l.rows.items ≡ replicate {A = Option PageRow} l.counter None

abbrev pub invariant-classes : goal.invariant-classes
invariant-classes l = record {
  long : length l.usable.items ≡ l.counter;
  wide : (c : ℕ) → c < l.counter → l.fn.pages ≤ room_of_class l.usable.items c;
  none : (c k : ℕ) → c < l.counter → class_bit l.usable.items c k ≡ 0;
}

abbrev pub invariant-loop-page : goal.invariant-loop-page
invariant-loop-page l = record {
  some : (k : ℕ) → k < l.page → has_bit l.free k ≡ 1;
  past : (k : ℕ) → l.page ≤ k → has_bit l.free k ≡ 0;
  room : l.fn.pages ≤ room_of l.free;
}
