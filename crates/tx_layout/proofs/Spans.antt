-- A loop that gives children their spans.
use Rattle.std.proofs.Common.{◌≡◌, ℕ, ◌+◌, ◌<◌, ◌∙◌, refl, sym, ap, List, [], ◌∷◌, ◌++◌, length, take, drop, get_or, append_assoc, append-nil, ◌≤◌}
use Rattle.std.proofs.Math.ListN.{set}
use Rattle.std.proofs.lemmas.List.{take_all, take_more_set}
use Rattle.std.proofs.Math.ListN.{drop_of_length-le}
use Rattle.tx_geom.specs.declared.choices.Axis.{Axis}
use Rattle.tx_box.specs.declared.items.Span.{Span}
use Rattle.tx_layout.specs.declared.children.Child.{Child}
use Rattle.tx_layout.specs.Sides.{with_spans, with_side, side_of}
use Rattle.tx_layout.proofs.Lists.{rest_is, drop_next, drop_written}

pub no_children : (axis : Axis) (spans : List Span) → with_spans axis [] spans ≡ []
no_children axis [] = refl
no_children axis (s ∷ spans) = refl

-- the next child has its span
pub spans_next : (axis : Axis) (cs : List Child) (spans : List Span) (i : ℕ) (c y : Child) (d : Span) (done : List Child) → i < length cs → c ≡ get_or cs i c → i < length spans → y ≡ with_side axis (side_of (get_or spans i d)) c
    → done ++ with_spans axis (drop i cs) (drop i spans) ≡ (done ++ y ∷ []) ++ with_spans axis (drop (i + 1) cs) (drop (i + 1) spans)
spans_next axis cs spans i c y d done h is j at =
    ap (λ l. done ++ with_spans axis l (drop i spans)) (rest_is cs i c h is)
    ∙ (ap (λ l. done ++ with_spans axis (c ∷ drop (i + 1) cs) l) (drop_next spans i d j)
    ∙ (ap (λ z. done ++ z ∷ with_spans axis (drop (i + 1) cs) (drop (i + 1) spans)) (sym at)
    ∙ sym (append_assoc done (y ∷ []) (with_spans axis (drop (i + 1) cs) (drop (i + 1) spans)))))

-- no child is left
pub spans_end : (axis : Axis) (cs : List Child) (spans : List Span) (i : ℕ) (done : List Child) → length cs ≤ i → done ++ with_spans axis (drop i cs) (drop i spans) ≡ done
spans_end axis cs spans i done h =
    ap (λ l. done ++ with_spans axis l (drop i spans)) (drop_of_length-le cs h) ∙ (ap (λ l. done ++ l) (no_children axis (drop i spans)) ∙ append-nil done)

-- the next child has its span, written in its place
pub spans_written : (axis : Axis) (cs : List Child) (spans : List Span) (i : ℕ) (c y : Child) (d : Span) → i < length cs → c ≡ get_or cs i c → i < length spans → y ≡ with_side axis (side_of (get_or spans i d)) c
    → take i cs ++ with_spans axis (drop i cs) (drop i spans) ≡ take (i + 1) (set cs i y) ++ with_spans axis (drop (i + 1) (set cs i y)) (drop (i + 1) spans)
spans_written axis cs spans i c y d h is j at = rw (take_more_set cs i y h, drop_written cs i y) (spans_next axis cs spans i c y d (take i cs) h is j at)

-- all children have theirs
pub spans_all : (axis : Axis) (cs : List Child) (spans : List Span) (i : ℕ) → length cs ≤ i → take i cs ++ with_spans axis (drop i cs) (drop i spans) ≡ cs
spans_all axis cs spans i h = spans_end axis cs spans i (take i cs) h ∙ take_all i cs h
