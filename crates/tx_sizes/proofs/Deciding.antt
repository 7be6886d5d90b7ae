-- What a row measures depends on its subtree alone.
use Rattle.std.proofs.Common.{◌≡◌, Bool, true, false, cond, List, [], ◌∷◌, ◌++◌, ◌∙◌, refl, sym, ap, ap₂, subst, All}
use Rattle.std.proofs.lemmas.List.Elements.{All-cons, All-head, All-nil, All-tail}
use Rattle.tx_geom.specs.declared.places.Size.{Size}
use Rattle.tx_sizes.specs.Forest.{Styled, Forest, Empty, Grown, forest, preorder}
use Rattle.tx_sizes.specs.Laws.{SubtreesDecide}
use Rattle.tx_sizes.specs.Measures.{Measure, Pictures, boxes, container_measure, first_measure, measures, own_measure, picture_of, row_measure, with_part}
use Rattle.tx_sizes.proofs.Forests.{keeps_rows, stands_alone}
use Rattle.tx_tree.specs.Kind.{holds_children}

-- the rows of two lists one behind the other
split : {A : Type 0} (P : A → Type 0) (xs ys : List A) → All P (xs ++ ys) → All P xs × All P ys
split P [] ys all = (All-nil P, all)
split P (x ∷ xs) ys all =
    let parts = split P xs ys (All-tail P x (xs ++ ys) all) in
    (All-cons P x xs (All-head P x (xs ++ ys) all) parts.0, parts.1)

module _ (pictures others : Pictures) (screen : Size) where
  abbrev IsSame : Styled → Type 0
  IsSame row = picture_of pictures row.row ≡ picture_of others row.row

  same_row : (row : Styled) (below : Forest) → IsSame row → measures pictures screen below ≡ measures others screen below
      → row_measure pictures screen row (boxes row.style below) (measures pictures screen below) ≡ row_measure others screen row (boxes row.style below) (measures others screen below)
  unfolding row_measure
  same_row row below same inner = by (holds_children row.row.kind)
    where
      by : (b : Bool)
          → cond b (container_measure screen row.style (boxes row.style below) (measures pictures screen below)) (own_measure (picture_of pictures row.row) row.row)
          ≡ cond b (container_measure screen row.style (boxes row.style below) (measures others screen below)) (own_measure (picture_of others row.row) row.row)
      by true = ap (λ ms. container_measure screen row.style (boxes row.style below) ms) inner
      by false = ap (λ picture. own_measure picture row.row) same

  same_measures : (f : Forest) → All IsSame (preorder f) → measures pictures screen f ≡ measures others screen f
  unfolding measures
  same_measures Empty all = refl
  same_measures (Grown row below beside) all =
      let same = All-head IsSame row (preorder below ++ preorder beside) all in
      let parts = split IsSame (preorder below) (preorder beside) (All-tail IsSame row (preorder below ++ preorder beside) all) in
      ap₂ (λ (m : Measure) (ms : List Measure). with_part row m ms) (same_row row below same (same_measures below parts.0)) (same_measures beside parts.1)

pub subtrees_decide : SubtreesDecide
subtrees_decide row below after other deeper beside other_beside pictures others same screen width area =
    let f = forest below in
    let inner = same_measures pictures others screen f (subst (λ (rows : List Styled). All (λ one. picture_of pictures one.row ≡ picture_of others one.row) rows) (sym (keeps_rows below)) (All-tail (λ one. picture_of pictures one.row ≡ picture_of others one.row) row below same)) in
    ap (λ (g : Forest). first_measure pictures screen g width area) (stands_alone row below after deeper beside)
    ∙ ap (λ (m : Measure). m width area) (same_row pictures others screen row f (All-head (λ one. picture_of pictures one.row ≡ picture_of others one.row) row below same) inner)
    ∙ sym (ap (λ (g : Forest). first_measure others screen g width area) (stands_alone row below other deeper other_beside))
