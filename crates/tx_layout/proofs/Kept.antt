-- Loops that number children, and that keep some of them.
use Rattle.std.proofs.Common.{◌≡◌, ℕ, ◌+◌, ◌<◌, ◌∙◌, sym, ap, Bool, true, false, List, [], ◌∷◌, ◌++◌, length, drop, get_or, append_assoc, if◌then◌else◌}
use Rattle.std.specs.List.{filter}
use Rattle.tx_layout.specs.declared.children.Child.{Child}
use Rattle.tx_layout.specs.declared.styles.BoxStyle.{BoxStyle}
use Rattle.tx_layout.specs.Children.{numbered, child_at}
use Rattle.tx_layout.proofs.Lists.{rest_is}

pub numbered_next : (styles : List BoxStyle) (i : ℕ) (s : BoxStyle) (c : Child) (done : List Child) → i < length styles → s ≡ get_or styles i s → c ≡ child_at i s
    → done ++ numbered i (drop i styles) ≡ (done ++ c ∷ []) ++ numbered (i + 1) (drop (i + 1) styles)
numbered_next styles i s c done h is at =
    ap (λ l. done ++ numbered i l) (rest_is styles i s h is)
    ∙ (ap (λ z. done ++ z ∷ numbered (i + 1) (drop (i + 1) styles)) (sym at) ∙ sym (append_assoc done (c ∷ []) (numbered (i + 1) (drop (i + 1) styles))))

kept_if : (p : Child → Bool) (b : Bool) (c : Child) (cs : List Child) → b ≡ p c → b ≡ true → filter p (c ∷ cs) ≡ c ∷ filter p cs
kept_if p b c cs is yes' = ap (λ b. if b then c ∷ filter p cs else filter p cs) (sym is ∙ yes')

left_if : (p : Child → Bool) (b : Bool) (c : Child) (cs : List Child) → b ≡ p c → b ≡ false → filter p (c ∷ cs) ≡ filter p cs
left_if p b c cs is no' = ap (λ b. if b then c ∷ filter p cs else filter p cs) (sym is ∙ no')

pub kept_next : (p : Child → Bool) (cs : List Child) (i : ℕ) (c : Child) (b : Bool) (done : List Child) → i < length cs → c ≡ get_or cs i c → b ≡ p c → b ≡ true
    → done ++ filter p (drop i cs) ≡ (done ++ c ∷ []) ++ filter p (drop (i + 1) cs)
kept_next p cs i c b done h at is yes' =
    ap (λ l. done ++ filter p l) (rest_is cs i c h at) ∙ (ap (λ l. done ++ l) (kept_if p b c (drop (i + 1) cs) is yes') ∙ sym (append_assoc done (c ∷ []) (filter p (drop (i + 1) cs))))

pub left_next : (p : Child → Bool) (cs : List Child) (i : ℕ) (c : Child) (b : Bool) (done : List Child) → i < length cs → c ≡ get_or cs i c → b ≡ p c → b ≡ false
    → done ++ filter p (drop i cs) ≡ done ++ filter p (drop (i + 1) cs)
left_next p cs i c b done h at is no' =
    ap (λ l. done ++ filter p l) (rest_is cs i c h at) ∙ ap (λ l. done ++ l) (left_if p b c (drop (i + 1) cs) is no')
