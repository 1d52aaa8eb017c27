-- The document of a graph heap, as one part after the other is written.
use Rattle.std.proofs.Common.{◌≡◌, ℕ, ◌-◌, min, None, List, [], ◌∷◌, ◌++◌, length, take, ap, sym, append-nil, refl}
use Rattle.graph_heap.specs.Graph.{Graph}
use Rattle.graph_heap.specs.declared.reachability.found.Found.{Found}
use Rattle.trace.specs.Streams.{GrowsByPart}
use Rattle.pictures.specs.declared.graph.statement.Statement.{Statement}
use Rattle.pictures.specs.declared.graph.statement.Statement.TheVariants.{Close}
use Rattle.pictures.specs.Statements.{dot_text}
use Rattle.pictures.specs.GraphDrawing.{shown_of, opening, cells_drawn, objects_drawn, left_out, graph_drawn, graph_picture}
use Rattle.pictures.proofs.graph.Drawn.{objects_are, left_is}
use Rattle.pictures.proofs.Parts.{SoFar, none_yet, further, cut_short, all_of}
use Rattle.pictures.proofs.Lines.{dot_is}

-- the lines that open it
module _ (g : Graph) (most : ℕ) (all : List Found) (t0 t1 : List ℕ) where
  abbrev shown : List ℕ
  shown = shown_of most all

  abbrev behind_objects : List Statement
  behind_objects = left_out (length all - most) ++ Close ∷ []

  abbrev behind_roots : List Statement
  behind_roots = objects_drawn g shown (take most all) ++ behind_objects

  abbrev behind_open : List Statement
  behind_open = cells_drawn g.limits shown None g.roots ++ behind_roots

  begun : SoFar dot_text t0 t0 (graph_drawn g most all) (graph_drawn g most all)
  begun = none_yet dot_is t0 (graph_drawn g most all)

  pub in_open : GrowsByPart t0 t1 (dot_text opening) → GrowsByPart t0 t1 (graph_picture g most all)
  in_open h = cut_short dot_is t0 t0 _ _ begun opening behind_open refl t1 h

  -- the roots behind it
  module _ (one : t1 ≡ t0 ++ dot_text opening) (rs : List ℕ) (row : rs ≡ g.roots) (t2 : List ℕ) where
    abbrev roots : List Statement
    roots = cells_drawn g.limits shown None rs

    opened : SoFar dot_text t0 t1 (graph_drawn g most all) behind_open
    opened = further dot_is t0 t0 _ _ begun opening behind_open refl t1 one

    to_roots : behind_open ≡ roots ++ behind_roots
    to_roots = ap (λ xs. cells_drawn g.limits shown None xs ++ behind_roots) (sym row)

    pub in_roots : GrowsByPart t1 t2 (dot_text roots) → GrowsByPart t0 t2 (graph_picture g most all)
    in_roots h = cut_short dot_is t0 t1 _ _ opened roots behind_roots to_roots t2 h

    -- the objects behind these
    module _ (two : t2 ≡ t1 ++ dot_text roots) (found : List Found) (count : ℕ) (those : found ≡ all) (few : count ≡ min most (length found)) (t3 : List ℕ) where
      abbrev objects : List Statement
      objects = objects_drawn g shown (take count found)

      rooted : SoFar dot_text t0 t2 (graph_drawn g most all) behind_roots
      rooted = further dot_is t0 t1 _ _ opened roots behind_roots to_roots t2 two

      to_objects : behind_roots ≡ objects ++ behind_objects
      to_objects = ap (λ xs. xs ++ behind_objects) (sym (objects_are shown g found all count most those few))

      pub in_objects : GrowsByPart t2 t3 (dot_text objects) → GrowsByPart t0 t3 (graph_picture g most all)
      in_objects h = cut_short dot_is t0 t2 _ _ rooted objects behind_objects to_objects t3 h

      -- how many are left out
      module _ (three : t3 ≡ t2 ++ dot_text objects) (n : ℕ) (left : n ≡ length found - most) (t4 : List ℕ) where
        listed : SoFar dot_text t0 t3 (graph_drawn g most all) behind_objects
        listed = further dot_is t0 t2 _ _ rooted objects behind_objects to_objects t3 three

        to_left : behind_objects ≡ left_out n ++ Close ∷ []
        to_left = ap (λ xs. xs ++ Close ∷ []) (sym (left_is found all n most those left))

        pub in_left_out : GrowsByPart t3 t4 (dot_text (left_out n)) → GrowsByPart t0 t4 (graph_picture g most all)
        in_left_out h = cut_short dot_is t0 t3 _ _ listed (left_out n) (Close ∷ []) to_left t4 h

        -- the line that closes it
        module _ (four : t4 ≡ t3 ++ dot_text (left_out n)) (t5 : List ℕ) where
          told : SoFar dot_text t0 t4 (graph_drawn g most all) (Close ∷ [])
          told = further dot_is t0 t3 _ _ listed (left_out n) (Close ∷ []) to_left t4 four

          pub in_close : GrowsByPart t4 t5 (dot_text (Close ∷ [])) → GrowsByPart t0 t5 (graph_picture g most all)
          in_close h = cut_short dot_is t0 t4 _ _ told (Close ∷ []) [] (sym (append-nil (Close ∷ []))) t5 h

          pub closed : t5 ≡ t4 ++ dot_text (Close ∷ []) → t5 ≡ t0 ++ graph_picture g most all
          closed five = all_of t0 t5 _ _ (further dot_is t0 t4 _ _ told (Close ∷ []) [] (sym (append-nil (Close ∷ []))) t5 five) refl
