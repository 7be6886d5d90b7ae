-- One pass over the parts, with each part written in its place.
use Rattle.std.proofs.Common.{◌≡◌, ℕ, zero, suc, ◌+◌, ◌<◌, List, [], ◌∷◌, ◌++◌, length, get_or, take, drop, refl, sym, ◌∙◌, ap, append_assoc, add-one, arith, drop-cons, Option, Some, None}
use Rattle.std.specs.Prelude.{All}
use Rattle.std.specs.Option.{option_map}
use Rattle.std.proofs.Math.ListN.{set}
use Rattle.std.proofs.Math.Seq.{drop-set-lt}
use Rattle.std.proofs.Math.Nat.{le_of_suc-le-suc, le_refl}
use Rattle.std.proofs.lemmas.List.Elements.{All-push, All-rest, All-head}
use Rattle.tx_box.specs.declared.parts.Part.{Part}
use Rattle.tx_box.specs.declared.parts.Part.TheVariants.{Settled, Growing}
use Rattle.tx_frac.specs.Ratio.{Ratio}
use Rattle.tx_geom.specs.declared.places.Size.{Size}
use Rattle.tx_geom.specs.declared.choices.Axis.{Axis}
use Rattle.tx_box.specs.declared.items.Item.{Item}
use Rattle.tx_box.specs.declared.items.Basis.{Basis}
use Rattle.std.specs.List.{zip}
use Rattle.tx_box.specs.declared.items.Span.{Span}
use Rattle.tx_box.specs.Axis.{placed, spans_from, part_of, bases, each, settled_sizes, final_size, round, behind, part_round}

-- ---- lists

-- the front of a list whose element at i was written
pub take_written : {A : Type 0} (xs : List A) (i : ℕ) (a : A) → i < length xs → take (i + 1) (set xs i a) ≡ take i xs ++ a ∷ []
take_written xs i a h = rw (add-one i) (by_suc xs i a h)
  where
    by_suc : {A : Type 0} (xs : List A) (i : ℕ) (a : A) → i < length xs → take (suc i) (set xs i a) ≡ take i xs ++ a ∷ []
    by_suc [] i a h = absurd (omega arith)
    by_suc (x ∷ xs) zero a h = refl
    by_suc (x ∷ xs) (suc i) a h = ap (λ r. x ∷ r) (by_suc xs i a (le_of_suc-le-suc h))

-- what is behind it
pub drop_written : {A : Type 0} (xs : List A) (i : ℕ) (a : A) → drop (i + 1) (set xs i a) ≡ drop (i + 1) xs
drop_written xs i a = rw (add-one i) (drop-set-lt (suc i) xs i a (le_refl (suc i)))

pub drop_next : {A : Type 0} (xs : List A) (i : ℕ) (d : A) → i < length xs → drop i xs ≡ get_or xs i d ∷ drop (i + 1) xs
drop_next xs i d h = rw (add-one i) (drop-cons xs i d h)

pub All-here : {A : Type 0} (P : A → Type 0) (xs : List A) (i : ℕ) (d : A) → i < length xs → All P (drop i xs) → P (get_or xs i d)
All-here P xs i d h all = All-head P (get_or xs i d) (drop (i + 1) xs) (rw (drop_next xs i d h) at all)

pub All-next : {A : Type 0} (P : A → Type 0) (xs : List A) (i : ℕ) (a d : A) → i < length xs → All P (drop i xs) → All P (drop (i + 1) (set xs i a))
All-next P xs i a d h all = rw (drop_written xs i a) (All-rest P (get_or xs i d) (drop (i + 1) xs) (drop i xs) (drop_next xs i d h) all)

pub All-written : {A : Type 0} (P : A → Type 0) (xs : List A) (i : ℕ) (a : A) → i < length xs → All P (take i xs) → P a → All P (take (i + 1) (set xs i a))
All-written P xs i a h all p = rw (take_written xs i a h) (All-push P (take i xs) a all p)

-- ---- the last sizes

settled_sizes-append : (ps qs : List Part) → settled_sizes (ps ++ qs) ≡ settled_sizes ps ++ settled_sizes qs
settled_sizes-append [] qs = refl
settled_sizes-append (Settled c ∷ ps) qs = ap (λ r. c ∷ r) (settled_sizes-append ps qs)
settled_sizes-append (Growing s l ∷ ps) qs = settled_sizes-append ps qs

-- the sizes so far, in front of those to come
abbrev pub sized_so_far : Option Ratio → ℕ → List Part → Option (List Ratio)
sized_so_far u i ps = option_map (λ sizes. settled_sizes (take i ps) ++ sizes) (each (final_size u) (drop i ps))

moved_over : (o : Option (List Ratio)) (a : List Ratio) (c : Ratio) → option_map (λ sizes. a ++ sizes) (option_map (λ sizes. c ∷ sizes) o) ≡ option_map (λ sizes. (a ++ c ∷ []) ++ sizes) o
moved_over None a c = refl
moved_over (Some sizes) a c = ap Some (sym (append_assoc a (c ∷ []) sizes))

pub sized_next : (u : Option Ratio) (i : ℕ) (ps : List Part) (p : Part) (c : Ratio) → i < length ps → p ≡ get_or ps i p → final_size u p ≡ Some c
    → sized_so_far u i ps ≡ sized_so_far u (i + 1) (set ps i (Settled c))
sized_next u i ps p c h is e =
    let rest : drop i ps ≡ p ∷ drop (i + 1) ps = drop_next ps i p h ∙ ap (λ q. q ∷ drop (i + 1) ps) (sym is) in
    let front : settled_sizes (take (i + 1) (set ps i (Settled c))) ≡ settled_sizes (take i ps) ++ c ∷ [] =
    ap settled_sizes (take_written ps i (Settled c) h) ∙ settled_sizes-append (take i ps) (Settled c ∷ []) in
    rw (rest, e, drop_written ps i (Settled c), front) (moved_over (each (final_size u) (drop (i + 1) ps)) (settled_sizes (take i ps)) c)

pub sized_none : (u : Option Ratio) (i : ℕ) (ps : List Part) (p : Part) → i < length ps → p ≡ get_or ps i p → final_size u p ≡ None → sized_so_far u i ps ≡ None
sized_none u i ps p h is e =
    let rest : drop i ps ≡ p ∷ drop (i + 1) ps = drop_next ps i p h ∙ ap (λ q. q ∷ drop (i + 1) ps) (sym is) in
    rw (rest, e) refl

-- ---- a round

-- what a round leaves and its parts, behind the parts so far
abbrev pub round_so_far : Ratio → Ratio → ℕ → List Part → Option (Ratio × List Part)
round_so_far u r i ps = option_map (λ rest. (rest.0, take i ps ++ rest.1)) (round u r (drop i ps))

round_moved_over : (o : Option (Ratio × List Part)) (a : List Part) (p : Part)
    → option_map {U = Ratio × List Part} (λ rest. (rest.0, a ++ rest.1)) (behind p o) ≡ option_map {U = Ratio × List Part} (λ rest. (rest.0, (a ++ p ∷ []) ++ rest.1)) o
round_moved_over None a p = refl
round_moved_over (Some rest) a p = ap (λ (ps : List Part). let x : Ratio × List Part = (rest.0, ps) in Some x) (sym (append_assoc a (p ∷ []) rest.1))

pub round_next : (u r : Ratio) (i : ℕ) (ps : List Part) (p q : Part) (left : Ratio) → i < length ps → p ≡ get_or ps i p → part_round u r p ≡ Some (q, left)
    → round_so_far u r i ps ≡ round_so_far u left (i + 1) (set ps i q)
round_next u r i ps p q left h is e =
    let rest : drop i ps ≡ p ∷ drop (i + 1) ps = drop_next ps i p h ∙ ap (λ x. x ∷ drop (i + 1) ps) (sym is) in
    rw (rest, e, drop_written ps i q, take_written ps i q h) (round_moved_over (round u left (drop (i + 1) ps)) (take i ps) q)

pub round_none : (u r : Ratio) (i : ℕ) (ps : List Part) (p : Part) → i < length ps → p ≡ get_or ps i p → part_round u r p ≡ None → round_so_far u r i ps ≡ None
round_none u r i ps p h is e =
    let rest : drop i ps ≡ p ∷ drop (i + 1) ps = drop_next ps i p h ∙ ap (λ x. x ∷ drop (i + 1) ps) (sym is) in
    rw (rest, e) refl

-- ---- the parts of the items

-- the parts so far, in front of those of the items from i on
abbrev pub parts_so_far : Axis → Basis → ℕ → List Item → List Size → List Part → Option (List Part)
parts_so_far axis basis i items own ps = option_map (λ rest. ps ++ rest) (each (λ (x : Item × Size). part_of x.0 (bases axis basis x.1)) (zip (drop i items) (drop i own)))

parts_moved_over : (o : Option (List Part)) (a : List Part) (p : Part) → option_map (λ rest. a ++ rest) (option_map (λ rest. p ∷ rest) o) ≡ option_map (λ rest. (a ++ p ∷ []) ++ rest) o
parts_moved_over None a p = refl
parts_moved_over (Some rest) a p = ap Some (sym (append_assoc a (p ∷ []) rest))

pub parts_next : (axis : Axis) (basis : Basis) (i : ℕ) (items : List Item) (own : List Size) (ps : List Part) (item : Item) (base : Size) (p : Part)
    → i < length items → i < length own → item ≡ get_or items i item → base ≡ get_or own i base → part_of item (bases axis basis base) ≡ Some p
    → parts_so_far axis basis i items own ps ≡ parts_so_far axis basis (i + 1) items own (ps ++ p ∷ [])
parts_next axis basis i items own ps item base p h k is at e =
    let rest : drop i items ≡ item ∷ drop (i + 1) items = drop_next items i item h ∙ ap (λ x. x ∷ drop (i + 1) items) (sym is) in
    let others : drop i own ≡ base ∷ drop (i + 1) own = drop_next own i base k ∙ ap (λ x. x ∷ drop (i + 1) own) (sym at) in
    rw (rest, others, e) (parts_moved_over (each (λ (x : Item × Size). part_of x.0 (bases axis basis x.1)) (zip (drop (i + 1) items) (drop (i + 1) own))) ps p)

pub parts_none : (axis : Axis) (basis : Basis) (i : ℕ) (items : List Item) (own : List Size) (ps : List Part) (item : Item) (base : Size)
    → i < length items → i < length own → item ≡ get_or items i item → base ≡ get_or own i base → part_of item (bases axis basis base) ≡ None
    → parts_so_far axis basis i items own ps ≡ None
parts_none axis basis i items own ps item base h k is at e =
    let rest : drop i items ≡ item ∷ drop (i + 1) items = drop_next items i item h ∙ ap (λ x. x ∷ drop (i + 1) items) (sym is) in
    let others : drop i own ≡ base ∷ drop (i + 1) own = drop_next own i base k ∙ ap (λ x. x ∷ drop (i + 1) own) (sym at) in
    rw (rest, others, e) refl

-- ---- the spans

-- the spans so far, in front of those of the parts from i on
abbrev pub spans_so_far : Ratio → ℕ → List Part → List ℕ → List Span → Option (List Span)
spans_so_far x i ps gaps spans = option_map (λ rest. spans ++ rest) (spans_from x (zip (settled_sizes (drop i ps)) (drop (i + 1) gaps)))

spans_moved_over : (o : Option (List Span)) (a : List Span) (s : Span) → option_map (λ rest. a ++ rest) (option_map (λ rest. s ∷ rest) o) ≡ option_map (λ rest. (a ++ s ∷ []) ++ rest) o
spans_moved_over None a s = refl
spans_moved_over (Some rest) a s = ap Some (sym (append_assoc a (s ∷ []) rest))

settled_sizes-cons : (p : Part) (ps : List Part) (c : Ratio) → settled_sizes (p ∷ []) ≡ c ∷ [] → settled_sizes (p ∷ ps) ≡ c ∷ settled_sizes ps
settled_sizes-cons p ps c e = settled_sizes-append (p ∷ []) ps ∙ ap (λ r. r ++ settled_sizes ps) e

pub spans_next : (x y : Ratio) (i : ℕ) (ps : List Part) (gaps : List ℕ) (spans : List Span) (p : Part) (c : Ratio) (g : ℕ) (s : Span)
    → i < length ps → i + 1 < length gaps → p ≡ get_or ps i p → g ≡ get_or gaps (i + 1) 0 → settled_sizes (p ∷ []) ≡ c ∷ [] → placed x c g ≡ Some (s, y)
    → spans_so_far x i ps gaps spans ≡ spans_so_far y (i + 1) ps gaps (spans ++ s ∷ [])
spans_next x y i ps gaps spans p c g s h k is at size e =
    let rest : drop i ps ≡ p ∷ drop (i + 1) ps = drop_next ps i p h ∙ ap (λ r. r ∷ drop (i + 1) ps) (sym is) in
    let others : drop (i + 1) gaps ≡ g ∷ drop (i + 1 + 1) gaps = drop_next gaps (i + 1) 0 k ∙ ap (λ r. r ∷ drop (i + 1 + 1) gaps) (sym at) in
    let sizes : settled_sizes (drop i ps) ≡ c ∷ settled_sizes (drop (i + 1) ps) = ap settled_sizes rest ∙ settled_sizes-cons p (drop (i + 1) ps) c size in
    rw (sizes, others, e) (spans_moved_over (spans_from y (zip (settled_sizes (drop (i + 1) ps)) (drop (i + 1 + 1) gaps))) spans s)

pub spans_none : (x : Ratio) (i : ℕ) (ps : List Part) (gaps : List ℕ) (spans : List Span) (p : Part) (c : Ratio) (g : ℕ)
    → i < length ps → i + 1 < length gaps → p ≡ get_or ps i p → g ≡ get_or gaps (i + 1) 0 → settled_sizes (p ∷ []) ≡ c ∷ [] → placed x c g ≡ None
    → spans_so_far x i ps gaps spans ≡ None
spans_none x i ps gaps spans p c g h k is at size e =
    let rest : drop i ps ≡ p ∷ drop (i + 1) ps = drop_next ps i p h ∙ ap (λ r. r ∷ drop (i + 1) ps) (sym is) in
    let others : drop (i + 1) gaps ≡ g ∷ drop (i + 1 + 1) gaps = drop_next gaps (i + 1) 0 k ∙ ap (λ r. r ∷ drop (i + 1 + 1) gaps) (sym at) in
    let sizes : settled_sizes (drop i ps) ≡ c ∷ settled_sizes (drop (i + 1) ps) = ap settled_sizes rest ∙ settled_sizes-cons p (drop (i + 1) ps) c size in
    rw (sizes, others, e) refl
