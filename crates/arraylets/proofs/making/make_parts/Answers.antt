use Rattle.std.proofs.Common.{◌≡◌, ◌∙◌, ℕ, ◌+◌, ◌/◌, ◌<◌, ◌≤◌, true, length, get_or, ap, sym, subst, arith}
use Rattle.std.proofs.lemmas.List.{get_or-replicate}
use Rattle.size_classes.specs.Parts.{cells_of, parts_in, part_cells, spine_of}
use Rattle.heap_model.specs.Pages.{has_room, TakesBlock}
use Rattle.heap_model.specs.Room.{needed_from}
use Rattle.heap_model.specs.Store.{is_allocated, record_of}
use Rattle.arraylets.specs.Made.{LinksPart}
use Rattle.arraylets.proofs.Linking.{none_made, one_more, spine_later, first_within, all_made, links_same, links_then, added_allocated, cells_few, linked_pages}
use Rattle.arraylets.proofs.making.make_parts.Goals.{After-make_part-block}
use Rattle.arraylets.proofs.making.make_parts.Goals as goal

pub loop-part-init : goal.loop-part-init
loop-part-init c = record {
  made = none_made _ _ _ _ _;
  room = c.requires.room;
  links = links_same _;
  within = (let z = get_or-replicate {A = ℕ} 64 0 0 0 (omega arith) in omega (arith, z));
}

-- the spine that refers to the next part stands, once that part is made
spine_there : (c : After-make_part-block) → 0 < c.loop-part.part
    → (is_allocated c.make_part-block.new.nodes (get_or c.loop-part.spines (spine_of (cells_of c.args.shape) c.loop-part.part) 0) ≡ true)
    × (length (record_of c.make_part-block.new.nodes (get_or c.loop-part.spines (spine_of (cells_of c.args.shape) c.loop-part.part) 0)).cells ≡ part_cells (cells_of c.args.shape) (spine_of (cells_of c.args.shape) c.loop-part.part))
spine_there c some =
    let count : c.count-part-end.result ≡ parts_in (cells_of c.args.shape) = c.count-part-end.ensures.count ∙ ap parts_in c.requires.parts in
    spine_later c.args.nodes.now c.loop-part.nodes c.loop-part.nodes c.args.shape c.args.colour c.args.identity c.loop-part.spines c.loop-part.spines c.loop-part.part c.make_part-block.result c.requires.fits
    (omega (arith, count, c.loop-part-test.true)) c.loop-part.invariant.made c.make_part-block.new.nodes _ c.make_part-block.ensures.made some

pub link-requires-clause-few : goal.link-requires-clause-few
link-requires-clause-few c = subst (λ n. n ≤ 4000000) (sym c.requires.parts) (cells_few c.args.shape c.requires.fits)

pub link-requires-clause-part : goal.link-requires-clause-part
link-requires-clause-part c = omega (arith, c.count-part-end.ensures.count, c.loop-part-test.true)

pub link-requires-clause-allocated : goal.link-requires-clause-allocated
link-requires-clause-allocated c some =
    subst (λ n. is_allocated c.make_part-block.new.nodes (get_or c.loop-part.spines (spine_of n c.loop-part.part) 0) ≡ true) (sym c.requires.parts) (spine_there (goal.at.link-requires-clause-allocated c).After-make_part-block some).0

pub link-requires-clause-cells : goal.link-requires-clause-cells
link-requires-clause-cells c some =
    subst (λ n. length (record_of c.make_part-block.new.nodes (get_or c.loop-part.spines (spine_of n c.loop-part.part) 0)).cells ≡ part_cells n (spine_of n c.loop-part.part)) (sym c.requires.parts) (spine_there (goal.at.link-requires-clause-cells c).After-make_part-block some).1

pub loop-part-preserved : goal.loop-part-preserved
loop-part-preserved c =
    let i = c.loop-part.invariant in
    let e = c.make_part-block.ensures in
    let n = c.note.ensures in
    let count : c.count-part-end.result ≡ parts_in (cells_of c.args.shape) = c.count-part-end.ensures.count ∙ ap parts_in c.requires.parts in
    let linked : LinksPart (cells_of c.args.shape) c.make_part-block.new.nodes (get_or c.loop-part.spines (spine_of (cells_of c.args.shape) c.loop-part.part) 0) c.loop-part.part c.make_part-block.result c.link.new.nodes =
    subst (λ k. LinksPart k c.make_part-block.new.nodes (get_or c.loop-part.spines (spine_of k c.loop-part.part) 0) c.loop-part.part c.make_part-block.result c.link.new.nodes) c.requires.parts c.link.ensures.linked in
    let pages = linked_pages _ _ _ _ _ _ linked in
    record {
      made = one_more c.args.nodes.now c.loop-part.nodes c.link.new.nodes c.args.shape c.args.colour c.args.identity c.loop-part.spines c.note.new.spines c.loop-part.part c.make_part-block.result c.requires.fits
          (omega (arith, count, c.loop-part-test.true)) i.made (record { between = c.make_part-block.new.nodes; added = e.made; linked = linked })
          (e.taken.0, e.taken.1, e.taken.2, subst (λ p. TakesBlock c.loop-part.nodes.pages e.taken.0 (c.make_part-block.result / 2048) e.taken.1 p) (sym pages) e.taken.3) n.here n.others;
      room = ap (λ p. has_room p (needed_from (cells_of c.args.shape) (c.loop-part.part + 1) (parts_in (cells_of c.args.shape)))) pages ∙ e.room;
      links = links_then _ _ _ i.made.allocated i.links (links_then _ _ _ (added_allocated _ _ _ _ e.made) e.links c.link.ensures.links);
      within = first_within c.loop-part.spines c.note.new.spines c.loop-part.part c.make_part-block.result n.here n.others i.within e.within;
    }

pub returns-clause-made : goal.returns-clause-made
returns-clause-made c =
    let count : c.count-part-end.result ≡ parts_in (cells_of c.args.shape) = c.count-part-end.ensures.count ∙ ap parts_in c.requires.parts in
    let i = c.loop-part.invariant in
    let e : c.loop-part.part ≡ parts_in (cells_of c.args.shape) = omega (arith, count, c.loop-part-test.false) in
    all_made c.args.nodes.now c.loop-part.nodes c.args.shape c.args.colour c.args.identity c.loop-part.spines c.loop-part.part i.made e (omega (arith, e, count, c.count-part-end.ensures.within))

pub returns-clause-within : goal.returns-clause-within
returns-clause-within c = c.loop-part.invariant.within

pub returns-clause-links : goal.returns-clause-links
returns-clause-links c = c.loop-part.invariant.links

pub make_part-block-requires-clause-part : goal.make_part-block-requires-clause-part
make_part-block-requires-clause-part c = subst (λ n. c.loop-part.part < n) (c.count-part-end.ensures.count ∙ ap parts_in c.requires.parts) c.loop-part-test.true

pub make_part-block-requires-clause-room : goal.make_part-block-requires-clause-room
make_part-block-requires-clause-room c = c.loop-part.invariant.room
