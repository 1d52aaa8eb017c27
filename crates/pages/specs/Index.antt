-- The fields of the table: a record for each page, bits and numbers.
use Rattle.std.specs.Prelude.{◌≡◌, ℕ, ◌+◌, ◌-◌, ◌<◌, ◌≤◌, Bool, true, false, ◌&&◌, not, ◌==◌, nat_lt, if◌then◌else◌, List, map, length, slice_index, slice_index_or, Option, Some, None, IsSomeAnd, count_by, sum_by}
use Rattle.size_classes.specs.declared.class.TheConstants.{CLASSES}
use Rattle.size_classes.specs.declared.config.TheConstants.{MOST_HEAP_PAGES}
use Rattle.size_classes.specs.Sizes.{blocks_in}
use Rattle.heap_model.specs.Store.{address_of}
use Rattle.pages.specs.declared.bits.BitRow.{BitRow}
use Rattle.pages.specs.declared.page.PageRow.{PageRow}
use Rattle.pages.specs.BitRow.{has_bit, room_of}

-- the record of page k, none if there is no such page
abbrev pub row_at : List (Option PageRow) → ℕ → Option PageRow
row_at rows k = slice_index_or rows k None

-- free, or of the class
abbrev pub OfClass : ℕ → Option PageRow → Type 0
OfClass class None = Unit {0}
OfClass class (Some r) = r.class ≡ class

-- the page is of the class and not evacuating, and has a free block
abbrev pub row_usable : ℕ → Option PageRow → Bool
row_usable class None = false
row_usable class (Some r) = (r.class == class) && (not r.evacuating && nat_lt r.allocated (blocks_in r.class))

-- whether a page is free
abbrev pub row_free : Option PageRow → Bool
row_free None = true
row_free (Some r) = false

-- how many free blocks of the class, none if it is evacuating
abbrev pub row_free_on : ℕ → Option PageRow → ℕ
row_free_on class None = 0
row_free_on class (Some r) = if (r.class == class) && not r.evacuating then blocks_in r.class - r.allocated else 0

-- the page is of the class, and neither evacuating nor a target
abbrev pub row_choosable : ℕ → Option PageRow → Bool
row_choosable class None = false
row_choosable class (Some r) = (r.class == class) && (not r.evacuating && not r.is_target)

-- in use by the class, not evacuating, with a free block
abbrev pub HasFree : ℕ → Option PageRow → Type 0
HasFree class o = IsSomeAnd o (λ r. (r.class ≡ class) × (r.evacuating ≡ false) × (r.allocated < blocks_in r.class))

-- a truth value as a bit
abbrev pub bit : Bool → ℕ
bit b = if b then 1 else 0

-- bit k of the row of a class
abbrev pub class_bit : List BitRow → ℕ → ℕ → ℕ
class_bit usable class k = slice_index (map (λ r. has_bit r k) usable) class

-- how many bits the row of a class has room for
abbrev pub room_of_class : List BitRow → ℕ → ℕ
room_of_class usable class = slice_index (map room_of usable) class

-- the bits and the numbers are those of the rows
pub record IsIndex (rows : List (Option PageRow)) (usable : List BitRow) (free : BitRow) (free_blocks : List ℕ)
    (free_pages : ℕ) : Type 0 where
  pub few : length rows ≤ MOST_HEAP_PAGES
  pub classes : length usable ≡ CLASSES
  pub counts : length free_blocks ≡ CLASSES
  pub wide : (class : ℕ) → class < CLASSES → length rows ≤ room_of_class usable class
  pub free_wide : length rows ≤ room_of free
  pub usable_bits : (class k : ℕ) → class < CLASSES → class_bit usable class k ≡ bit (row_usable class (row_at rows k))
  pub free_bits : (k : ℕ) → k < length rows → has_bit free k ≡ bit (row_free (row_at rows k))
  pub free_past : (k : ℕ) → length rows ≤ k → has_bit free k ≡ 0
  pub blocks_are : (class : ℕ) → class < CLASSES → slice_index free_blocks class ≡ sum_by (row_free_on class) rows
  pub pages_are : free_pages ≡ count_by row_free rows

-- the page closed: its marks go, and if no block is allocated it becomes free
abbrev pub row_closed : Option PageRow → Option PageRow
row_closed None = None
row_closed (Some r) = if r.allocated == 0 then None else Some (record r { evacuating = false; is_target = false })

-- the record of a page whose block was given back: the block is the first of the list, and one less is allocated
abbrev pub row_given : ℕ → ℕ → PageRow → PageRow
row_given page index r =
    record r { first = address_of r.class page index + 1; allocated = r.allocated - 1 }
