-- The most units and quanta that a cycle takes. They depend on the numbers of root cells and pages, of pages that it may
-- empty, and of the units of a quantum.
use Rattle.std.specs.Prelude.{ℕ, ◌+◌, ◌-◌, ◌*◌, ◌/◌}
use Rattle.size_classes.specs.declared.class.TheConstants.{CLASSES, MOST_BLOCKS, PAGE_WORDS}

-- The most units of a whole cycle: one for each root cell, three for each word of the pages, and four. For each page
-- there is one for each class, and one for each page that may be emptied.
abbrev pub cycle_units : ℕ → ℕ → ℕ → ℕ
cycle_units roots pages emptied = roots + 3 * (PAGE_WORDS * pages) + (emptied + CLASSES) * pages + 4

-- The most units of roots, marking and sweeping, if marking spends `marking`. The others are one for each root cell, for
-- each page one more than the blocks of a page of the smallest class, as many as these blocks once more, and four for
-- changes of phase.
abbrev pub sweep_units : ℕ → ℕ → ℕ → ℕ
sweep_units roots pages marking = roots + marking + (MOST_BLOCKS + 1) * pages + (MOST_BLOCKS + 4)

-- the units of roots, marking and sweeping, if marking spends one for each word of the pages
abbrev pub swept_units : ℕ → ℕ → ℕ
swept_units roots pages = sweep_units roots pages (PAGE_WORDS * pages)

-- the units of moving: a look at every page for each class and each page that may be emptied, the words of the pages, and one
abbrev pub moving_units : ℕ → ℕ → ℕ
moving_units pages emptied = (emptied + CLASSES) * pages + PAGE_WORDS * pages + 1

-- The most quanta of a phase that spends this many units, with budgets of at least k. A quantum may leave a part of its
-- budget, at most 255 units.
abbrev pub quanta_for : ℕ → ℕ → ℕ
quanta_for units k = units / (k - 255) + 1

-- the most quanta of a cycle that moves, with budgets of at least k: only quanta of moving may leave a part of their
-- budget
abbrev pub moved_quanta : ℕ → ℕ → ℕ → ℕ → ℕ
moved_quanta roots pages emptied k =
    (swept_units roots pages + moving_units pages emptied + 255 * quanta_for (moving_units pages emptied) k) / k + 1

-- the most quanta of a cycle that doesn't move, with budgets of at least k: each action costs one unit, so a quantum
-- spends all
abbrev pub unmoved_quanta : ℕ → ℕ → ℕ → ℕ
unmoved_quanta roots pages k = swept_units roots pages / k + 1
