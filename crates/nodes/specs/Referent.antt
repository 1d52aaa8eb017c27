-- The referent of a reference.
use Rattle.std.specs.Prelude.{◌≡◌, ◌≢◌, ℕ, ◌+◌, ◌-◌, ◌==◌, if◌then◌else◌, true}
use Rattle.heap_model.specs.Store.{Store, is_allocated, record_of}
use Rattle.nodes.specs.declared.nodes.Referent.{Referent}

-- by way of the forwarding word of its block: the identity in the main copy, and the reference of
-- that; null names nothing
abbrev pub referent_of : Store → ℕ → Referent
referent_of s x =
    if x == 0 then record { identity = 0; reference = 0 }
    else record {
      identity = (record_of s (record_of s (x - 1)).forward).identity;
      reference = (record_of s (x - 1)).forward + 1;
    }

-- null, or the reference of an allocated block that forwards to an allocated one
abbrev pub CanFollow : Store → ℕ → Type 0
CanFollow s x = x ≢ 0 → (is_allocated s (x - 1) ≡ true) × (is_allocated s (record_of s (x - 1)).forward ≡ true)
