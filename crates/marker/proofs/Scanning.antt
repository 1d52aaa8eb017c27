-- Marking on its way, whatever phase and units the fields have.
use Rattle.std.proofs.Common.{◌≡◌, ◌≢◌, ℕ, ◌+◌, ◌-◌, ◌<◌, ◌≤◌, ◌^◌, ◌==◌, if◌then◌else◌, Bool, true, false, [], ◌∷◌, ◌++◌, List, length, ap, ◌∙◌, sym, subst, refl, arith}
use Rattle.heap_model.specs.declared.phase.Phase.TheVariants as phases
use Rattle.heap_model.specs.Action.{Action, Relinks, Chain, Nothing_done, Shades, Was_marked, Is_marked, Scans_header, Ends_marking, goes_to}
use Rattle.heap_model.specs.Grey.{AreGrey}
use Rattle.heap_model.specs.State.{HeapState, seen, width_at}
use Rattle.heap_model.specs.Store.{Store, is_allocated, record_of}
use Rattle.nodes.specs.declared.heap_fields.HeapFields.{HeapFields}
use Rattle.nodes.specs.Grey.{grey_in, AreLinked}
use Rattle.nodes.specs.HeapFields.{state_of}
use Rattle.nodes.proofs.Chains.{relinked_action, then_action, then_chain, heap_after_chain}
use Rattle.marker.specs.Scanning.{scanning, IsScanning}
use Rattle.marker.proofs.Acting.{some_of}
use Rattle.marker.proofs.InScan.{part_allocated, all_scanned, none_left, cell_small}

-- shading is the same in each place
pub shades_at : (h k : HeapState) (x part cell units : ℕ) → Shades h x k → Shades (record h { phase = phases.Marking part cell; units = units }) x (record k { phase = phases.Marking part cell; units = units })
shades_at h k x part cell units (Was_marked e) = Was_marked e
shades_at h k x part cell units (Is_marked new front back is e w) = Is_marked new front back is e w

-- and so are the grey parts
pub grey_at : (h : HeapState) (part cell units : ℕ) → AreGrey (record h { phase = phases.Marking part cell; units = units }) → AreGrey h
grey_at h part cell units w = record { pages = w.pages; some = w.some; allocated = w.allocated; marked = w.marked; once = w.once; few = w.few }

-- a heap whose phase says where it is
pub at_once : (a : HeapFields) (part cell : ℕ) → a.phase ≡ phases.Marking part cell → scanning a part cell a.units ≡ a
at_once a part cell ep = ap (λ p. record a { phase = p }) (sym ep)

-- nothing was done yet
pub none_scanned : (a : HeapFields) (part cell units : ℕ) → Chain (state_of (scanning a part cell units)) 0 (state_of (scanning a part (cell + 0) (units + 0)))
none_scanned a part cell units =
    let h = state_of (scanning a part cell units) in
    subst (λ c. Chain h 0 (state_of (scanning a part c (units + 0)))) (let e : cell ≡ cell + 0 = omega arith in e)
    (subst (λ u. Chain h 0 (state_of (scanning a part cell u))) (let e : units ≡ units + 0 = omega arith in e) Nothing_done)

-- a run of further cells
pub run_scanned : (h : HeapState) (b k : HeapFields) (part cell n m units : ℕ) → Chain h n (state_of (scanning b part (cell + n) (units + n))) → Chain (state_of (scanning b part (cell + n) (units + n))) m (state_of (scanning k part (cell + n + m) (units + n + m)))
    → Chain h (n + m) (state_of (scanning k part (cell + (n + m)) (units + (n + m))))
run_scanned h b k part cell n m units chain rest =
    subst (λ c. Chain h (n + m) (state_of (scanning k part c (units + (n + m))))) (let e : cell + n + m ≡ cell + (n + m) = omega arith in e)
    (subst (λ u. Chain h (n + m) (state_of (scanning k part (cell + n + m) u))) (let e : units + n + m ≡ units + (n + m) = omega arith in e)
    (then_chain h (state_of (scanning b part (cell + n) (units + n))) (state_of (scanning k part (cell + n + m) (units + n + m))) n m chain rest))

-- actions lead from a heap between two steps to one
pub still_scanning : (a b : HeapFields) (part cell to at n : ℕ) → IsScanning a part cell → ((units : ℕ) → Chain (state_of (scanning a part cell units)) n (state_of (scanning b to at (units + n)))) → b.grey.buffers ≡ a.grey.buffers → AreLinked b.nodes b.grey → IsScanning b to at
still_scanning a b part cell to at n is chain buffers linked = (is.0 + n, heap_after_chain (scanning a part cell is.0) (scanning b to at (is.0 + n)) is.1 n (chain is.0) (ap length buffers) linked)

-- blocks were threaded anew: a part is as wide as before
relinked_width : (h : HeapState) (s : Store) → Relinks h.store s → (part : ℕ) → (part ≢ 0 → is_allocated h.store (part - 1) ≡ true) → (seen (record h { store = s })).width part ≡ (seen h).width part
relinked_width h s links part allocated = by_null (part == 0) refl
  where
    by_null : (t : Bool) → (part == 0) ≡ t → (if t then 0 else width_at (record_of s (part - 1))) ≡ (if t then 0 else width_at (record_of h.store (part - 1)))
    by_null true e = refl
    by_null false e = ap width_at (links.blocks.nodes (part - 1) (allocated (grind (arith, e))))

-- a grey part is taken, and its header scanned
pub header_once : (a b : HeapFields) (part cell next units : ℕ) → IsScanning a part cell → (part ≢ 0 → width_at (record_of a.nodes (part - 1)) ≤ cell) → Relinks a.nodes b.nodes → b ≡ record a { nodes = b.nodes; grey = b.grey }
    → (front : List ℕ) × (back : List ℕ) × (grey_in a.nodes a.grey ≡ front ++ next ∷ back) × (grey_in b.nodes b.grey ≡ front ++ back)
    → Action (record (state_of (scanning a part cell units)) { store = b.nodes }) 1 (state_of (scanning b next 0 (units + 1)))
header_once a b part cell next units is done links same q =
    let h = state_of (scanning a part cell units) in
    let linked : HeapState = record h { store = b.nodes } in
    let after : HeapState = goes_to linked 1 (phases.Marking next 0) in
    let scanned = all_scanned (scanning a part cell is.0) is.1 part cell refl done ∙ sym (relinked_width h b.nodes links part (part_allocated (scanning a part cell is.0) is.1 part cell refl)) in
    subst (λ (x : HeapFields). Action linked 1 (state_of (scanning x next 0 (units + 1)))) (sym same)
    (subst (λ xs. Action linked 1 (record after { grey = xs })) (sym q.3) (Scans_header part cell next q.0 q.1 refl scanned q.2))

-- that is a chain, too
pub header_scanned : (a b : HeapFields) (part cell next units : ℕ) → IsScanning a part cell → (part ≢ 0 → width_at (record_of a.nodes (part - 1)) ≤ cell) → Relinks a.nodes b.nodes → b ≡ record a { nodes = b.nodes; grey = b.grey }
    → (front : List ℕ) × (back : List ℕ) × (grey_in a.nodes a.grey ≡ front ++ next ∷ back) × (grey_in b.nodes b.grey ≡ front ++ back)
    → Chain (state_of (scanning a part cell units)) 1 (state_of (scanning b next 0 (units + 1)))
header_scanned a b part cell next units is done links same q =
    relinked_action (state_of (scanning a part cell units)) (state_of (scanning b next 0 (units + 1))) b.nodes 1 links (header_once a b part cell next units is done links same q)

-- no part is grey: marking ends
pub marking_ends : (a : HeapFields) (part cell units : ℕ) → IsScanning a part cell → (part ≢ 0 → width_at (record_of a.nodes (part - 1)) ≤ cell) → grey_in a.nodes a.grey ≡ []
    → Action (state_of (scanning a part cell units)) 1 (goes_to (state_of (scanning a part cell units)) 1 (phases.Sweeping 0 0))
marking_ends a part cell units is done none = Ends_marking part cell refl (all_scanned (scanning a part cell is.0) is.1 part cell refl done) none

-- how many reference cells a part has that isn't null
pub width_there : (a : HeapFields) (part : ℕ) → part ≢ 0 → (seen (state_of a)).width part ≡ width_at (record_of a.nodes (part - 1))
width_there a part ne = some_of part 0 (width_at (record_of a.nodes (part - 1))) ne

-- if cells are left there is a part in scan
pub some_left : (a : HeapFields) (part cell width : ℕ) → width ≡ (seen (state_of a)).width part → cell < width → part ≢ 0
some_left a part cell width is left e = let none : width ≡ 0 = is ∙ ap (seen (state_of a)).width e in absurd (omega (arith, left, none))

-- if none are left all were scanned
pub past_all : (a : HeapFields) (part cell width : ℕ) → width ≡ (seen (state_of a)).width part → width ≤ cell → part ≢ 0 → width_at (record_of a.nodes (part - 1)) ≤ cell
past_all a part cell width is past ne = omega (arith, past, is, width_there a part ne)

-- a cell's number is small
pub place_small : (a : HeapFields) (part cell : ℕ) → IsScanning a part cell → cell < 2 ^ 31
place_small a part cell is = by_null (part == 0) refl
  where
    by_null : (t : Bool) → (part == 0) ≡ t → cell < 2 ^ 31
    by_null true z = let none : cell ≡ 0 = none_left (scanning a part cell is.0) is.1 part cell refl (grind arith) in omega arith
    by_null false z = cell_small (scanning a part cell is.0) is.1 part cell refl (grind arith)

-- a part was taken, and nothing else was written
pub taken_same : (a b : HeapFields) → b ≡ record a { nodes = b.nodes; grey = record a.grey { first = b.grey.first } } → b ≡ record a { nodes = b.nodes; grey = b.grey }
taken_same a b e = e ∙ ap (λ g. record a { nodes = b.nodes; grey = g }) (sym (ap (λ (x : HeapFields). x.grey) e))

-- marking goes on at the phase's cell
pub begun : (a : HeapFields) (part cell : ℕ) → a.phase ≡ phases.Marking part cell → Chain (state_of a) 0 (state_of (scanning a part cell (a.units + 0)))
begun a part cell ep =
    subst (λ (x : HeapFields). Chain (state_of a) 0 (state_of x)) (sym (at_once a part cell ep) ∙ ap (scanning a part cell) (let e : a.units ≡ a.units + 0 = omega arith in e)) Nothing_done

-- further steps after some
pub more_scanned : (a b k : HeapFields) (part cell to at n m : ℕ) → Chain (state_of a) n (state_of (scanning b part cell (a.units + n))) → ((units : ℕ) → Chain (state_of (scanning b part cell units)) m (state_of (scanning k to at (units + m))))
    → Chain (state_of a) (n + m) (state_of (scanning k to at (a.units + (n + m))))
more_scanned a b k part cell to at n m first rest =
    subst (λ u. Chain (state_of a) (n + m) (state_of (scanning k to at u))) (let e : a.units + n + m ≡ a.units + (n + m) = omega arith in e)
    (then_chain (state_of a) (state_of (scanning b part cell (a.units + n))) (state_of (scanning k to at (a.units + n + m))) n m first (rest (a.units + n)))

-- Marking ends after these scans.
pub ended : (a b k : HeapFields) (part cell n : ℕ) (h : HeapState) → Chain (state_of a) n h → k.units ≡ a.units → Action h 1 (goes_to (state_of (scanning k part cell (a.units + n))) 1 (phases.Sweeping 0 0)) → b ≡ record k { phase = phases.Sweeping 0 0; units = k.units + (n + 1) }
    → Chain (state_of a) (n + 1) (state_of b)
ended a b k part cell n h first same last is =
    subst (λ (x : HeapFields). Chain (state_of a) (n + 1) (state_of x)) (sym is)
    (subst (λ u. Chain (state_of a) (n + 1) (state_of (record k { phase = phases.Sweeping 0 0; units = u }))) (let e : a.units + n + 1 ≡ k.units + (n + 1) = omega (arith, same) in e)
    (then_action (state_of a) h (goes_to (state_of (scanning k part cell (a.units + n))) 1 (phases.Sweeping 0 0)) n 1 first last))
