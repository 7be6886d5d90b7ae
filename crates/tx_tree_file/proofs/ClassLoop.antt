-- Classes read one behind another.
use Rattle.std.proofs.Common.{◌≡◌, ℕ, zero, suc, ◌+◌, ◌-◌, ◌≤◌, ◌==◌, Bool, true, false, cond, List, [], ◌∷◌, ◌++◌, length, Option, Some, None, option_map, refl, ap, sym, ◌∙◌, arith, append_assoc, append-nil, length-append, codes}
use Rattle.tx_read.specs.Pieces.{behind}
use Rattle.tx_tree_file.proofs.Fronts.{front_of}
use Rattle.tx_text.specs.Name.{is_name}
use Rattle.tx_tree.specs.Spelled.{no_repeats}
use Rattle.tx_tree_file.specs.Parts.{word, past_word, classes_within, classes_of}

abbrev pub Found : Type 0
Found = Option (List (List ℕ) × List ℕ)

abbrev pub before : List (List ℕ) → Found → Found
before front found = option_map (λ f. (front ++ f.0, f.1)) found

before-cons : (front : List (List ℕ)) (name : List ℕ) (found : Found) → before front (option_map (λ f. (name ∷ f.0, f.1)) found) ≡ before (front ++ name ∷ []) found
before-cons front name None = refl
before-cons front name (Some f) = ap (λ (names : List (List ℕ)). Some (names, f.1)) (sym (append_assoc front (name ∷ []) f.0))

pub past_word-short : (bytes : List ℕ) → length (past_word bytes) ≤ length bytes
past_word-short [] = omega arith
past_word-short (byte ∷ bytes) = by (byte == 32) (past_word-short bytes)
  where
    by : (b : Bool) → length (past_word bytes) ≤ length bytes → length (cond b (byte ∷ bytes) (past_word bytes)) ≤ length (byte ∷ bytes)
    by true h = omega arith
    by false h = omega (arith, h)

-- one class more
step : (n : ℕ) (bytes rest : List ℕ) → behind (codes " .") bytes ≡ Some rest → is_name (word rest) ≡ true
    → classes_within (suc n) bytes ≡ option_map (λ f. (word rest ∷ f.0, f.1)) (classes_within n (past_word rest))
step n bytes rest e h = rw (e, h) refl

no_step : (n : ℕ) (bytes rest : List ℕ) → behind (codes " .") bytes ≡ Some rest → is_name (word rest) ≡ false → classes_within (suc n) bytes ≡ None
no_step n bytes rest e h = rw (e, h) refl

stop : (n : ℕ) (bytes : List ℕ) → behind (codes " .") bytes ≡ None → classes_within n bytes ≡ Some ([], bytes)
stop zero bytes e = refl
stop (suc n) bytes e = rw e refl

shorter : (bytes rest : List ℕ) → behind (codes " .") bytes ≡ Some rest → length bytes ≡ 2 + length rest
shorter bytes rest e = let a = ap length (front_of (codes " .") bytes rest e) in omega (arith, a)

pub next_short : (bytes rest next : List ℕ) → behind (codes " .") bytes ≡ Some rest → next ≡ past_word rest → length next + 2 ≤ length bytes
next_short bytes rest next e f =
    let a = shorter bytes rest e in
    let b = past_word-short rest in
    rw f (omega (arith, a, b))

-- the room that is left takes one more
pub next_room : (most : ℕ) (front : List (List ℕ)) (name bytes rest next : List ℕ) → length bytes + length front ≤ most → behind (codes " .") bytes ≡ Some rest
    → next ≡ past_word rest → length next + length (front ++ name ∷ []) ≤ most
next_room most front name bytes rest next room e f =
    let a = next_short bytes rest next e f in
    let b : length (front ++ name ∷ []) ≡ length front + 1 = length-append front (name ∷ []) in
    omega (arith, a, b, room)

pub next_class : (most : ℕ) (front : List (List ℕ)) (all bytes rest next name : List ℕ) → length bytes + length front ≤ most
    → before front (classes_within (most - length front) bytes) ≡ classes_within most all
    → behind (codes " .") bytes ≡ Some rest → is_name (word rest) ≡ true → name ≡ word rest → next ≡ past_word rest
    → before (front ++ name ∷ []) (classes_within (most - length (front ++ name ∷ [])) next) ≡ classes_within most all
next_class most front all bytes rest next name room so e is same f =
    let a = shorter bytes rest e in
    let there : suc (most - length front - 1) ≡ most - length front = omega (arith, a, room) in
    let b : length (front ++ name ∷ []) ≡ length front + 1 = length-append front (name ∷ []) in
    let left : most - length (front ++ name ∷ []) ≡ most - length front - 1 = omega (arith, b) in
    ap (λ (m : ℕ). before (front ++ name ∷ []) (classes_within m next)) left
    ∙ ap (λ (z : List ℕ). before (front ++ name ∷ []) (classes_within (most - length front - 1) z)) f
    ∙ sym (before-cons front name (classes_within (most - length front - 1) (past_word rest)))
    ∙ ap (λ (z : List ℕ). before front (option_map (λ f. (z ∷ f.0, f.1)) (classes_within (most - length front - 1) (past_word rest)))) same
    ∙ ap (before front) (sym (step (most - length front - 1) bytes rest e is))
    ∙ ap (λ (m : ℕ). before front (classes_within m bytes)) there
    ∙ so

pub no_class : (front : List (List ℕ)) (all bytes rest : List ℕ) → length bytes + length front ≤ length all
    → before front (classes_within (length all - length front) bytes) ≡ classes_within (length all) all
    → behind (codes " .") bytes ≡ Some rest → is_name (word rest) ≡ false → None ≡ classes_of all
no_class front all bytes rest room so e n =
    let a = shorter bytes rest e in
    let there : suc (length all - length front - 1) ≡ length all - length front = omega (arith, a, room) in
    let fails : classes_within (length all) all ≡ None =
    sym so ∙ ap (λ (m : ℕ). before front (classes_within m bytes)) (sym there) ∙ ap (before front) (no_step (length all - length front - 1) bytes rest e n) in
    rw fails refl

pub all_classes : (front : List (List ℕ)) (all bytes : List ℕ) (b : Bool)
    → before front (classes_within (length all - length front) bytes) ≡ classes_within (length all) all
    → behind (codes " .") bytes ≡ None → b ≡ no_repeats front → cond b (Some (front, bytes)) None ≡ classes_of all
all_classes front all bytes b so e r =
    let found : classes_within (length all) all ≡ Some (front, bytes) =
    sym so ∙ ap (before front) (stop (length all - length front) bytes e) ∙ ap (λ (z : List (List ℕ)). Some (z, bytes)) (append-nil front) in
    rw (found, r) refl
