-- A loop that gives children their cells in tracks.
use Rattle.std.proofs.Common.{◌≡◌, ℕ, zero, suc, ◌+◌, ◌<◌, ◌∙◌, refl, sym, ap, List, [], ◌∷◌, ◌++◌, length, drop, get_or, append_assoc, Option, Some, arith}
use Rattle.std.specs.List.{cons_option}
use Rattle.tx_box.specs.declared.items.Span.{Span}
use Rattle.tx_grid.specs.declared.places.Cells.{Cells}
use Rattle.tx_layout.specs.declared.children.Child.{Child}
use Rattle.tx_layout.specs.declared.children.Framed.{Framed}
use Rattle.tx_layout.specs.Grid.{frame_with, frame_at, framed}
use Rattle.tx_layout.proofs.Lists.{rest_is}

any_default : {A : Type 0} (xs : List A) (i : ℕ) (a b : A) → i < length xs → get_or xs i a ≡ get_or xs i b
any_default [] i a b h = absurd (omega arith)
any_default (x ∷ xs) zero a b h = refl
any_default (x ∷ xs) (suc i) a b h = any_default xs i a b (omega arith)

begin : (xs ys : List Span) (places : List (Option Cells)) (cs : List Child) (i : ℕ) (c : Child) (d : Option Cells) → i < length cs → c ≡ get_or cs i c → i < length places
    → framed xs ys (drop i places) (drop i cs) ≡ cons_option (frame_at xs ys (c, get_or places i d)) (framed xs ys (drop (i + 1) places) (drop (i + 1) cs))
begin xs ys places cs i c d h is j =
    ap (λ l. framed xs ys (drop i places) l) (rest_is cs i c h is)
    ∙ ap (λ l. framed xs ys l (c ∷ drop (i + 1) cs)) (rest_is places i (get_or places i d) j (any_default places i d (get_or places i d) j))

-- the next child finds a place
pub frame_next : (xs ys : List Span) (places : List (Option Cells)) (cs : List Child) (i : ℕ) (c : Child) (d : Option Cells) (k : Cells) (f : Framed) (done : List Framed) → i < length cs → c ≡ get_or cs i c → i < length places
    → get_or places i d ≡ Some k → f ≡ frame_with xs ys c k → done ++ framed xs ys (drop i places) (drop i cs) ≡ (done ++ f ∷ []) ++ framed xs ys (drop (i + 1) places) (drop (i + 1) cs)
frame_next xs ys places cs i c d k f done h is j some so =
    ap (λ l. done ++ l) (begin xs ys places cs i c d h is j
    ∙ (ap (λ o. cons_option (frame_at xs ys (c, o)) (framed xs ys (drop (i + 1) places) (drop (i + 1) cs))) some
    ∙ ap (λ g. g ∷ framed xs ys (drop (i + 1) places) (drop (i + 1) cs)) (sym so)))
    ∙ sym (append_assoc done (f ∷ []) (framed xs ys (drop (i + 1) places) (drop (i + 1) cs)))
