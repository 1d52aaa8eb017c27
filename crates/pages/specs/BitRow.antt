-- A row of bits.
use Rattle.std.specs.Prelude.{ℕ, ◌*◌, length}
use Rattle.pages.specs.declared.levels.TheConstants.{WORD_BITS}
use Rattle.pages.specs.declared.bits.BitRow.{BitRow}
use Rattle.pages.specs.Bits.{bit_in}

-- bit k of a row
abbrev pub has_bit : BitRow → ℕ → ℕ
has_bit r k = bit_in r.words.items k

-- how many bits a row has room for
abbrev pub room_of : BitRow → ℕ
room_of r = WORD_BITS * length r.words.items
