-- The next siblings in one list of children, kept in an array.
use Rattle.std.proofs.Common.{◌≡◌, ◌≢◌, ℕ, ◌+◌, ◌<◌, ◌≤◌, List, [], ◌∷◌, ◌++◌, refl, sym, ap, subst, ◌∙◌, arith, append_assoc, length, set, inl, inr}
use Rattle.std.specs.Prelude.{slice_index}
use Rattle.std.proofs.lemmas.Bool.{cases_eq, cases_lt, eq-eqb, ne_eqb}
use Rattle.std.proofs.lemmas.List.{get_or-set_same, get_or-set_other, length-set}
use Rattle.tx_tree.proofs.Counting.{none-head, none-tail}
use Rattle.tx_tree.proofs.Numbers.{times-head, times-tail, times-append, times-other}
use Rattle.tx_tree.proofs.NextSiblings.{behind_in-at, empty_or_last}
use Rattle.tx_tree.specs.ChildLists.{times, first_or_zero, behind_in, last_or_zero}

-- the array has the next sibling of each child of a list
abbrev pub Follows : List ℕ → List ℕ → Type 0
Follows behind ks = (j : ℕ) → 0 < times j ks → slice_index behind j ≡ behind_in j ks

-- no number stands twice
abbrev pub Once : List ℕ → Type 0
Once ks = (j : ℕ) → times j ks ≤ 1

-- the last number of a list stands in it
pub last-stands : (xs : List ℕ) (last : ℕ) → 0 < times last (xs ++ (last ∷ []))
last-stands xs last = let sum = times-append last xs (last ∷ []) in let one = times-head last [] in omega (arith, sum, one)

-- the first number behind some others
pub first-behind : (xs : List ℕ) (k : ℕ) (a b : List ℕ) → first_or_zero ((xs ++ (k ∷ [])) ++ a) ≡ first_or_zero ((xs ++ (k ∷ [])) ++ b)
first-behind [] k a b = refl
first-behind (x ∷ xs) k a b = refl

-- what follows a number ahead of the last of some doesn't depend on what is behind them
pub behind_in-ahead : (j last : ℕ) (xs a b : List ℕ) → j ≢ last → 0 < times j xs → behind_in j ((xs ++ (last ∷ [])) ++ a) ≡ behind_in j ((xs ++ (last ∷ [])) ++ b)
behind_in-ahead j last [] a b ne h = absurd (omega (arith, h))
behind_in-ahead j last (x ∷ xs) a b ne h = elim (cases_eq x j) [
  | inl e ↦ rw (eq-eqb x j e) (first-behind xs last a b)
  | inr n2 ↦ rw (ne_eqb x j n2) (behind_in-ahead j last xs a b ne (rw (sym (times-other j x xs n2)) h))
]

-- a number that doesn't stand in some is passed over
pub behind_in-past : (j : ℕ) (xs ys : List ℕ) → times j xs ≡ 0 → behind_in j (xs ++ ys) ≡ behind_in j ys
behind_in-past j [] ys h = refl
behind_in-past j (x ∷ xs) ys h = rw (none-head _ _ h) (behind_in-past j xs ys (none-tail _ _ h))

-- the number ahead of a place stands in the list, or is 0
ahead-stands : (left rest : List ℕ) (j : ℕ) → times j (left ++ rest) ≡ 0 → 0 < j → j ≢ last_or_zero left
ahead-stands left rest j none some e = elim (empty_or_last left) [
  | inl empty ↦ let z : last_or_zero left ≡ 0 = ap last_or_zero empty in omega (arith, some, e, z)
  | inr found ↦
      let one : 0 < times (last_or_zero left) (found.0 ++ (last_or_zero left ∷ [])) = last-stands found.0 (last_or_zero left) in
      let sum = times-append j left rest in
      let same : times (last_or_zero left) (found.0 ++ (last_or_zero left ∷ [])) ≡ times j left = ap (times (last_or_zero left)) (sym found.1) ∙ ap (λ (z : ℕ). times z left) (sym e) in
      omega (arith, none, one, sum, same)
]

-- a child is taken away: the one ahead of it gets its next sibling
follows-drop-at : (behind : List ℕ) (c last : ℕ) (xs right : List ℕ) → Follows behind ((xs ++ (last ∷ [])) ++ (c ∷ right)) → Once ((xs ++ (last ∷ [])) ++ (c ∷ right))
    → ((j : ℕ) → 0 < times j ((xs ++ (last ∷ [])) ++ (c ∷ right)) → j < length behind)
    → Follows (set behind last (slice_index behind c)) ((xs ++ (last ∷ [])) ++ right)
follows-drop-at behind c last xs right follows once bound j h =
    let left : List ℕ = xs ++ (last ∷ []) in
    let stands = last-stands xs last in
    let cl = times-append c left (c ∷ right) in
    let co = once c in
    let ch = times-head c right in
    let c_left : times c left ≡ 0 = omega (arith, cl, co, ch) in
    elim (cases_eq j last) [
      | inl e ↦
          let ll = times-append last left (c ∷ right) in
          let lo = once last in
          let lx = times-append last xs (last ∷ []) in
          let lh = times-head last [] in
          let lt : last < length behind = bound last (omega (arith, ll, stands)) in
          ap (slice_index (set behind last (slice_index behind c))) e
          ∙ (get_or-set_same behind last (slice_index behind c) 0 lt
          ∙ (follows c (omega (arith, cl, ch))
          ∙ (behind_in-at c left right c_left
          ∙ sym (ap (λ (z : ℕ). behind_in z (left ++ right)) e ∙ (ap (behind_in last) (append_assoc xs (last ∷ []) right) ∙ behind_in-at last xs right (omega (arith, ll, lo, lx, lh)))))))
      | inr ne ↦
          let jr = times-append j left right in
          let jc = times-append j left (c ∷ right) in
          let jt = times-tail j c right in
          let among : 0 < times j (left ++ (c ∷ right)) = elim (cases_lt 0 (times j left)) [
            | inl some ↦ omega (arith, jc, some)
            | inr le ↦ (let t = times-tail j c right (omega (arith, h, jr, le)) in omega (arith, jc, t))
          ] in
          get_or-set_other behind last j (slice_index behind c) 0 ne
          ∙ (follows j among
          ∙ elim (cases_lt 0 (times j xs)) [
            | inl some ↦ behind_in-ahead j last xs (c ∷ right) right ne some
            | inr le ↦
                let jx = times-append j xs (last ∷ []) in
                let jl = times-other j last [] (λ e. ne (sym e)) in
                let none : times j left ≡ 0 = omega (arith, jx, jl, le) in
                let other : c ≢ j = λ e. let z = ap (λ (y : ℕ). times y (left ++ right)) (sym e) in let cr = times-append c left right in let cc1 = times-append c left (c ∷ right) in
                let own : times c (c ∷ right) ≡ 1 + times c right = rw (eq-eqb c c refl) refl in omega (arith, h, z, cr, cc1, co, own, c_left) in
                behind_in-past j left (c ∷ right) none ∙ (rw (ne_eqb c j other) refl ∙ sym (behind_in-past j left right none))
          ])
    ]

pub follows-drop : (behind : List ℕ) (c : ℕ) (left right : List ℕ) → Follows behind (left ++ (c ∷ right)) → Once (left ++ (c ∷ right))
    → ((j : ℕ) → 0 < times j (left ++ (c ∷ right)) → (0 < j) × (j < length behind))
    → Follows (set behind (last_or_zero left) (slice_index behind c)) (left ++ right)
follows-drop behind c left right follows once bound = elim (empty_or_last left) [
  | inl empty ↦ λ j h.
      let bare : 0 < times j right = (let e = ap (λ (z : List ℕ). times j (z ++ right)) empty in omega (arith, h, e)) in
      let among : 0 < times j (left ++ (c ∷ right)) = (let e = ap (λ (z : List ℕ). times j (z ++ (c ∷ right))) empty in let t = times-tail j c right bare in omega (arith, e, t)) in
      let other : c ≢ j = λ e.
      (let co = once c in let z = ap (λ (y : ℕ). times y right) e in let f = ap (λ (z : List ℕ). times c (z ++ (c ∷ right))) empty in
      let own : times c (c ∷ right) ≡ 1 + times c right = rw (eq-eqb c c refl) refl in omega (arith, bare, co, z, f, own)) in
      let some = (bound j among).0 in
      let z : last_or_zero left ≡ 0 = ap last_or_zero empty in
      get_or-set_other behind (last_or_zero left) j (slice_index behind c) 0 (λ e. omega (arith, some, e, z))
      ∙ (follows j among
      ∙ (ap (λ (y : List ℕ). behind_in j (y ++ (c ∷ right))) empty ∙ (rw (ne_eqb c j other) refl ∙ sym (ap (λ (y : List ℕ). behind_in j (y ++ right)) empty))))
  | inr found ↦
      let P : List ℕ → Type 0 = λ z. Follows (set behind (last_or_zero left) (slice_index behind c)) (z ++ right) in
      let Q : List ℕ → Type 0 = λ z. Follows behind (z ++ (c ∷ right)) in
      let O : List ℕ → Type 0 = λ z. Once (z ++ (c ∷ right)) in
      let B : List ℕ → Type 0 = λ z. (j : ℕ) → 0 < times j (z ++ (c ∷ right)) → j < length behind in
      subst P (sym found.1)
      (follows-drop-at behind c (last_or_zero left) found.0 right (subst Q found.1 follows) (subst O found.1 once) (subst B found.1 (λ j h. (bound j h).1)))
]

-- and no other place changes
pub stays-drop : (behind : List ℕ) (c : ℕ) (left right : List ℕ) (j : ℕ) → times j (left ++ (c ∷ right)) ≡ 0 → 0 < j
    → slice_index (set behind (last_or_zero left) (slice_index behind c)) j ≡ slice_index behind j
stays-drop behind c left right j none some = get_or-set_other behind (last_or_zero left) j (slice_index behind c) 0 (ahead-stands left (c ∷ right) j none some)

-- a number is put directly before another: it becomes the next of the one ahead of that
follows-put-at : (behind : List ℕ) (n b last : ℕ) (xs right : List ℕ) → Follows behind ((xs ++ (last ∷ [])) ++ (b ∷ right)) → times n ((xs ++ (last ∷ [])) ++ (b ∷ right)) ≡ 0
    → Once ((xs ++ (last ∷ [])) ++ (b ∷ right)) → last < length behind → n < length behind
    → Follows (set (set behind last n) n b) ((xs ++ (last ∷ [])) ++ (n ∷ (b ∷ right)))
follows-put-at behind n b last xs right follows new once lt ltn j h =
    let left : List ℕ = xs ++ (last ∷ []) in
    let stands = last-stands xs last in
    let nl = times-append n left (b ∷ right) in
    let n_left : times n left ≡ 0 = omega (arith, new, nl) in
    let size = length-set behind last n in
    elim (cases_eq j n) [
      | inl e ↦
          ap (slice_index (set (set behind last n) n b)) e
          ∙ (get_or-set_same (set behind last n) n b 0 (omega (arith, size, ltn))
          ∙ sym (ap (λ (z : ℕ). behind_in z (left ++ (n ∷ (b ∷ right)))) e ∙ behind_in-at n left (b ∷ right) n_left))
      | inr nj ↦
          let jn = times-append j left (n ∷ (b ∷ right)) in
          let jb = times-append j left (b ∷ right) in
          let jo = times-other j n (b ∷ right) (λ e. nj (sym e)) in
          let among : 0 < times j (left ++ (b ∷ right)) = omega (arith, h, jn, jb, jo) in
          get_or-set_other (set behind last n) n j b 0 nj
          ∙ elim (cases_eq j last) [
            | inl e ↦
                let ll = times-append last left (b ∷ right) in
                let lo = once last in
                let lx = times-append last xs (last ∷ []) in
                let lh = times-head last [] in
                ap (slice_index (set behind last n)) e
                ∙ (get_or-set_same behind last n 0 lt
                ∙ sym (ap (λ (z : ℕ). behind_in z (left ++ (n ∷ (b ∷ right)))) e ∙ (ap (behind_in last) (append_assoc xs (last ∷ []) (n ∷ (b ∷ right))) ∙ behind_in-at last xs (n ∷ (b ∷ right)) (omega (arith, ll, lo, lx, lh)))))
            | inr ne ↦
                get_or-set_other behind last j n 0 ne
                ∙ (follows j among
                ∙ elim (cases_lt 0 (times j xs)) [
                  | inl some ↦ behind_in-ahead j last xs (b ∷ right) (n ∷ (b ∷ right)) ne some
                  | inr le ↦
                      let jx = times-append j xs (last ∷ []) in
                      let jl = times-other j last [] (λ e. ne (sym e)) in
                      let none : times j left ≡ 0 = omega (arith, jx, jl, le) in
                      behind_in-past j left (b ∷ right) none
                      ∙ sym (behind_in-past j left (n ∷ (b ∷ right)) none ∙ rw (ne_eqb n j (λ e. nj (sym e))) refl)
                ])
          ]
    ]

pub follows-put : (behind : List ℕ) (n b : ℕ) (left right : List ℕ) → Follows behind (left ++ (b ∷ right)) → times n (left ++ (b ∷ right)) ≡ 0
    → Once (left ++ (b ∷ right)) → ((j : ℕ) → 0 < times j (left ++ (b ∷ right)) → (0 < j) × (j < length behind)) → n < length behind → 0 < n
    → Follows (set (set behind (last_or_zero left) n) n b) (left ++ (n ∷ (b ∷ right)))
follows-put behind n b left right follows new once bound ltn pos = elim (empty_or_last left) [
  | inl empty ↦ λ j h.
      let z : last_or_zero left ≡ 0 = ap last_or_zero empty in
      let size = length-set behind (last_or_zero left) n in
      elim (cases_eq j n) [
        | inl e ↦
            ap (slice_index (set (set behind (last_or_zero left) n) n b)) e
            ∙ (get_or-set_same (set behind (last_or_zero left) n) n b 0 (omega (arith, size, ltn))
            ∙ sym (ap (λ (y : ℕ). behind_in y (left ++ (n ∷ (b ∷ right)))) e ∙ (ap (λ (y : List ℕ). behind_in n (y ++ (n ∷ (b ∷ right)))) empty ∙ behind_in-at n [] (b ∷ right) refl)))
        | inr nj ↦
            let jn = times-append j left (n ∷ (b ∷ right)) in
            let jb = times-append j left (b ∷ right) in
            let jo = times-other j n (b ∷ right) (λ e. nj (sym e)) in
            let among : 0 < times j (left ++ (b ∷ right)) = omega (arith, h, jn, jb, jo) in
            let some = (bound j among).0 in
            get_or-set_other (set behind (last_or_zero left) n) n j b 0 nj
            ∙ (get_or-set_other behind (last_or_zero left) j n 0 (λ e. omega (arith, some, e, z))
            ∙ (follows j among
            ∙ (ap (λ (y : List ℕ). behind_in j (y ++ (b ∷ right))) empty
            ∙ sym (ap (λ (y : List ℕ). behind_in j (y ++ (n ∷ (b ∷ right)))) empty ∙ rw (ne_eqb n j (λ e. nj (sym e))) refl))))
      ]
  | inr found ↦
      let last : ℕ = last_or_zero left in
      let P : List ℕ → Type 0 = λ z. Follows (set (set behind last n) n b) (z ++ (n ∷ (b ∷ right))) in
      let Q : List ℕ → Type 0 = λ z. Follows behind (z ++ (b ∷ right)) in
      let O : List ℕ → Type 0 = λ z. Once (z ++ (b ∷ right)) in
      let N : List ℕ → Type 0 = λ z. times n (z ++ (b ∷ right)) ≡ 0 in
      let stands : 0 < times last left = (let s = last-stands found.0 last in let e = ap (times last) found.1 in omega (arith, s, e)) in
      let lt = (bound last (let t = times-append last left (b ∷ right) in omega (arith, t, stands))).1 in
      subst P (sym found.1) (follows-put-at behind n b last found.0 right (subst Q found.1 follows) (subst N found.1 new) (subst O found.1 once) lt ltn)
]

pub stays-put : (behind : List ℕ) (n b : ℕ) (left right : List ℕ) (j : ℕ) → times j (left ++ (b ∷ right)) ≡ 0 → j ≢ n → 0 < j
    → slice_index (set (set behind (last_or_zero left) n) n b) j ≡ slice_index behind j
stays-put behind n b left right j none ne some =
    get_or-set_other (set behind (last_or_zero left) n) n j b 0 ne
    ∙ get_or-set_other behind (last_or_zero left) j n 0 (ahead-stands left (b ∷ right) j none some)
