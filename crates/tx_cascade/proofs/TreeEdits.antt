-- The edits that name rows which are mounted, removed or moved lead.
use Rattle.std.proofs.Common.{◌≡◌, ℕ, ◌+◌, ◌<◌, ◌≤◌, ◌==◌, ◌&&◌, ◌||◌, Bool, true, false, not, List, [], ◌∷◌, ◌++◌, Option, Some, None, option_map, refl, sym, ap, subst, ◌∙◌, arith, inl, inr, append_assoc}
use Rattle.std.specs.List.{list_any}
use Rattle.std.specs.Option.{option_eq, option_map_or}
use Rattle.std.specs.Prelude.{unwrap_or, nat_eq, is_none, if◌then◌else◌}
use Rattle.std.proofs.Math.Nat.{eq-zero-or-pos}
use Rattle.std.proofs.lemmas.Bool.{cases_eq, eq-eqb, eqb-true, eqb-false, ne_eqb, false≢true}
use Rattle.tx_tree.specs.Edits.{have_one_parent, move_refusal}
use Rattle.tx_tree.specs.Mount.{refusal_below, mount_refusal, mounted}
use Rattle.tx_tree.specs.Row.{number, has_number, placed}
use Rattle.tx_tree.specs.Rows.{row_at, depth_of, before_of, from_of, last_above, parent_of, subtree_of, after_of, removed, moved, count_of}
use Rattle.tx_tree.specs.TreeValue.{TreeValue}
use Rattle.tx_tree.specs.WellFormed.{IsTree}
use Rattle.tx_tree.specs.declared.fault.TreeFault.{TreeFault}
use Rattle.tx_tree.specs.declared.fault.TreeFault.TheVariants.{NoNode, NotSiblings}
use Rattle.tx_tree.specs.declared.row.NewRow.{NewRow}
use Rattle.tx_tree.specs.declared.row.NodeId.{NodeId}
use Rattle.tx_tree.specs.declared.row.Row.{Row}
use Rattle.tx_tree.proofs.lemmas.NumbersAndIds.{count_of-append}
use Rattle.tx_select.specs.declared.value.Pseudo.{Pseudo as State}
use Rattle.tx_cascade.specs.Edits.{is_node, names_mounted, names_removed, names_moved, comes_before, RowLeads, RowsLead, Leads}
use Rattle.tx_cascade.specs.TreeEditLaws.{IsBelow, ChangesOfTreesLead, TreeEditsLead}
use Rattle.tx_cascade.specs.declared.edit.Edit.{Edit}
use Rattle.tx_cascade.specs.declared.edit.Edit.TheVariants.{Mounted, Removed, Moved}
use Rattle.tx_cascade.proofs.EditsLead.{state-stays, row-stays}
use Rattle.tx_select.proofs.lemmas.Ancestry.{before-among, counted}
use Rattle.tx_cascade.proofs.lemmas.Parents.{parent-before, parent-at, row-number}
use Rattle.tx_cascade.proofs.RowCut.{Cut, cut, split-whole}
use Rattle.tx_cascade.proofs.RowParts.{Climbs, AreAsDeep, climbs-more, tree-climbs, join-climbs, from-climbs, depth-at, none-at, above-append, above-deep, parent-is, parent-none, parent-depth}
use Rattle.tx_cascade.proofs.RowsAmong.{same-at, same-parent, same-order, counted-at, behind-at, at-within, order-within, parent-within, parent-first}

-- ---- rows that are there

same-row : (row other : Row) → Some row ≡ Some other → row ≡ other
same-row row other is = ap (λ (o : Option Row). unwrap_or o row) is

none-some : (row : Row) (at : Option Row) → at ≡ None → at ≡ Some row → ⊥
none-some row at none some = let clash : None ≡ Some row = sym none ∙ some in cc

same-leads : (edits : List Edit) (n : ℕ) (before after : Row) → Some before ≡ Some after → RowLeads edits n before after
same-leads edits n before after is = subst (λ (row : Row). RowLeads edits n before row) (same-row before after is) (row-stays edits n before)

-- who has a parent is there
child-there : (n : ℕ) (rows : List Row) (parent : Row) → row_at n rows ≡ None → parent_of n rows ≡ Some parent → ⊥
child-there n rows parent none is = none-some parent (parent_of n rows) (parent-none n rows none) is

-- a parent is among the rows
parent-counted : (n : ℕ) (rows : List Row) (parent : Row) → parent_of n rows ≡ Some parent → 0 < count_of (number parent) rows
parent-counted n rows parent is = let one = counted rows parent (before-among n rows parent (parent-before rows n parent is)) in omega (arith, one)

-- the node behind a row that was answered
the-node : (found : Option Row) (row : Row) (node : NodeId) → found ≡ Some row → option_map (λ row. row.node) found ≡ Some node → row.node ≡ node
the-node found row node there is = let e : Some row.node ≡ Some node = sym (ap (option_map (λ (row : Row). row.node)) there) ∙ is in cc

named : (n : ℕ) (node : NodeId) → n ≡ node.0 → is_node n node ≡ true
named n node is = eq-eqb node.0 n (sym is)

both-named : (n parent : ℕ) (node above : NodeId) → n ≡ node.0 → parent ≡ above.0 → ((is_node n node && is_node parent above) || false) ≡ true
both-named n parent node above is up = ap (λ b. (b && is_node parent above) || false) (named n node is) ∙ ap (λ b. b || false) (named parent above up)

-- ---- rows with others among them, and without

module _ (xs ys zs : List Row) (once : (n : ℕ) → count_of n (xs ++ (ys ++ zs)) ≤ 1) where
  parts : (n : ℕ) → count_of n (xs ++ (ys ++ zs)) ≡ count_of n xs + (count_of n ys + count_of n zs)
  parts n = count_of-append n xs (ys ++ zs) ∙ ap (λ (c : ℕ). count_of n xs + c) (count_of-append n ys zs)

  others : (n : ℕ) → count_of n (xs ++ zs) ≡ count_of n xs + count_of n zs
  others n = count_of-append n xs zs

  -- what stands among them doesn't stand elsewhere
  pub apart-front : (n : ℕ) → 0 < count_of n ys → count_of n xs ≡ 0
  apart-front n some = omega (arith, once n, parts n, some)

  pub apart-others : (n : ℕ) → 0 < count_of n ys → count_of n (xs ++ zs) ≡ 0
  apart-others n some = omega (arith, once n, parts n, others n, some)

  pub gone : (n : ℕ) → 0 < count_of n ys → row_at n (xs ++ zs) ≡ None
  gone n some = none-at n (xs ++ zs) (apart-others n some)

-- ---- a row that is mounted

module _ (xs zs : List Row) (row above : Row) (node parent : NodeId) (own : number row ≡ node.0) (up : number above ≡ parent.0) (climbs : Climbs row.depth zs)
    (fresh : count_of (number row) (xs ++ zs) ≡ 0) (below : parent_of (number row) (xs ++ ((row ∷ []) ++ zs)) ≡ Some above) where
  abbrev came : List Edit
  came = Mounted node parent ∷ []

  deep : AreAsDeep row.depth (row ∷ [])
  deep = (omega arith, tt)

  lone : (n : ℕ) → (number row ≡ n → ⊥) → count_of n (row ∷ []) ≡ 0
  lone n differ = let other : has_number n row ≡ false = ne_eqb (number row) n differ in rw other refl

  -- no row has the number of the one that comes
  was-none : (n : ℕ) → number row ≡ n → row_at n (xs ++ zs) ≡ None
  was-none n is = subst (λ (m : ℕ). row_at m (xs ++ zs) ≡ None) is (none-at (number row) (xs ++ zs) fresh)

  stays : (n : ℕ) (before : Row) → row_at n (xs ++ zs) ≡ Some before → count_of n (row ∷ []) ≡ 0
  stays n before was = lone n (λ is. none-some before (row_at n (xs ++ zs)) (was-none n is) was)

  its-parent : (n : ℕ) (other : Row) → number row ≡ n → parent_of n (xs ++ ((row ∷ []) ++ zs)) ≡ Some other → number other ≡ parent.0
  its-parent n other is there =
      let e : Some above ≡ Some other = sym below ∙ (ap (λ (m : ℕ). parent_of m (xs ++ ((row ∷ []) ++ zs))) is ∙ there) in
      ap number (sym (same-row above other e)) ∙ up

  names : (n : ℕ) (new other : Row) → row_at n (xs ++ zs) ≡ None → row_at n (xs ++ ((row ∷ []) ++ zs)) ≡ Some new → parent_of n (xs ++ ((row ∷ []) ++ zs)) ≡ Some other
      → list_any (names_mounted n (number other)) came ≡ true
  names n new other was is there = elim (cases_eq (number row) n) [
    | inl same ↦ both-named n (number other) node parent (sym same ∙ own) (its-parent n other same there)
    | inr differ ↦ absurd (none-some new (row_at n (xs ++ ((row ∷ []) ++ zs))) (sym (same-at (row ∷ []) zs row.depth deep climbs n xs (lone n differ)) ∙ was) is)
  ]

  pub mounted-leads : RowsLead came (xs ++ zs) (xs ++ ((row ∷ []) ++ zs))
  mounted-leads = record {
    kept = λ n before after was is. same-leads came n before after (sym was ∙ (same-at (row ∷ []) zs row.depth deep climbs n xs (stays n before was) ∙ is));
    mounted = names;
    removed = λ n before parent above was is up there.
        absurd (none-some before (row_at n (xs ++ zs)) (same-at (row ∷ []) zs row.depth deep climbs n xs (stays n before was) ∙ is) was);
    parents = λ n before after was is. ap (option_map number) (same-parent (row ∷ []) zs row.depth deep climbs n xs (stays n before was));
    moved = λ n m parent other n_was m_was n_is m_is n_stays m_stays.
        same-order (row ∷ []) zs row.depth deep climbs n m xs (child-stays n parent n_was) (child-stays m parent m_was);
  }
    where
      child-stays : (n : ℕ) (parent : Row) → parent_of n (xs ++ zs) ≡ Some parent → count_of n (row ∷ []) ≡ 0
      child-stays n parent is = lone n (λ same. child-there n (xs ++ zs) parent (was-none n same) is)

-- ---- rows that are removed

module _ (xs zs : List Row) (row : Row) (under : List Row) (once : (n : ℕ) → count_of n (xs ++ ((row ∷ under) ++ zs)) ≤ 1)
    (deep : AreAsDeep (row.depth + 1) under) (climbs : Climbs row.depth (row ∷ under)) (after : Climbs row.depth zs) where
  abbrev ys : List Row
  ys = row ∷ under

  as-deep : AreAsDeep row.depth ys
  as-deep = (omega arith, let less = depths under deep in less)
    where
      depths : (rows : List Row) → AreAsDeep (row.depth + 1) rows → AreAsDeep row.depth rows
      depths [] deep = tt
      depths (first ∷ rows) deep = (omega (arith, deep.0), depths rows deep.1)

  -- what is below one of them is below the first, or its parent is one of them
  parent-under : (n : ℕ) (parent : Row) → (number row ≡ n → ⊥) → 0 < count_of n ys → parent_of n (xs ++ (ys ++ zs)) ≡ Some parent → 0 < count_of (number parent) ys
  parent-under n parent differ some is =
      parent-counted n ys parent (sym (parent-within row under xs zs deep climbs n differ (apart-front xs ys zs once n some) some) ∙ is)

  module _ (node parent : NodeId) (own : number row ≡ node.0) (below : IsBelow (xs ++ (ys ++ zs)) node parent) where
    abbrev went : List Edit
    went = Removed node parent ∷ []

    names-removed : (n : ℕ) (old above there : Row) → row_at n (xs ++ (ys ++ zs)) ≡ Some old → row_at n (xs ++ zs) ≡ None → parent_of n (xs ++ (ys ++ zs)) ≡ Some above
        → row_at (number above) (xs ++ zs) ≡ Some there → list_any (names_removed n (number above)) went ≡ true
    names-removed n old above there was is up stays = elim (eq-zero-or-pos (count_of n ys)) [
      | inl none ↦ absurd (none-some old (row_at n (xs ++ (ys ++ zs))) (sym (same-at ys zs row.depth as-deep after n xs none) ∙ is) was)
      | inr some ↦ elim (cases_eq (number row) n) [
        | inl same ↦
            let at : n ≡ node.0 = sym same ∙ own in
            let mine : option_map (λ (row : Row). row.node) (parent_of n (xs ++ (ys ++ zs))) ≡ Some parent =
            ap (λ (m : ℕ). option_map (λ (row : Row). row.node) (parent_of m (xs ++ (ys ++ zs)))) at ∙ below in
            both-named n (number above) node parent at (ap (λ (node : NodeId). node.0) (the-node (parent_of n (xs ++ (ys ++ zs))) above parent up mine))
        | inr differ ↦
            absurd (none-some there (row_at (number above) (xs ++ zs)) (gone xs ys zs once (number above) (parent-under n above differ some up)) stays)
      ]
    ]

    remains : (n : ℕ) (row : Row) → row_at n (xs ++ zs) ≡ Some row → count_of n ys ≡ 0
    remains n row is = elim (eq-zero-or-pos (count_of n ys)) [
      | inl none ↦ none
      | inr some ↦ absurd (none-some row (row_at n (xs ++ zs)) (gone xs ys zs once n some) is)
    ]

    child-remains : (n : ℕ) (parent : Row) → parent_of n (xs ++ zs) ≡ Some parent → count_of n ys ≡ 0
    child-remains n parent is = elim (eq-zero-or-pos (count_of n ys)) [
      | inl none ↦ none
      | inr some ↦ absurd (child-there n (xs ++ zs) parent (gone xs ys zs once n some) is)
    ]

    pub removed-leads : RowsLead went (xs ++ (ys ++ zs)) (xs ++ zs)
    removed-leads = record {
      kept = λ n before new was is. same-leads went n before new (sym was ∙ (sym (same-at ys zs row.depth as-deep after n xs (remains n new is)) ∙ is));
      mounted = λ n new above was is up.
          absurd (none-some new (row_at n (xs ++ zs)) (same-at ys zs row.depth as-deep after n xs (remains n new is) ∙ was) is);
      removed = names-removed;
      parents = λ n before new was is. ap (option_map number) (sym (same-parent ys zs row.depth as-deep after n xs (remains n new is)));
      moved = λ n m above other n_was m_was n_is m_is n_stays m_stays.
          sym (same-order ys zs row.depth as-deep after n m xs (child-remains n other n_is) (child-remains m other m_is));
    }

  -- ---- rows that are moved

  module _ (front behind : List Row) (whole : front ++ behind ≡ xs ++ zs) (onward : Climbs row.depth behind) where
    front-apart : (n : ℕ) → 0 < count_of n ys → count_of n front ≡ 0
    front-apart n some =
        let none : count_of n (front ++ behind) ≡ 0 = ap (count_of n) whole ∙ apart-others xs ys zs once n some in
        omega (arith, none, count_of-append n front behind)

    pub moved-at : (n : ℕ) → row_at n (xs ++ (ys ++ zs)) ≡ row_at n (front ++ (ys ++ behind))
    moved-at n = elim (eq-zero-or-pos (count_of n ys)) [
      | inl none ↦
          sym (same-at ys zs row.depth as-deep after n xs none)
          ∙ (ap (row_at n) (sym whole) ∙ same-at ys behind row.depth as-deep onward n front none)
      | inr some ↦
          at-within row under xs zs deep climbs n (apart-front xs ys zs once n some) some
          ∙ sym (at-within row under front behind deep climbs n (front-apart n some) some)
    ]

    other-parent : (n : ℕ) → count_of n ys ≡ 0 → parent_of n (xs ++ (ys ++ zs)) ≡ parent_of n (front ++ (ys ++ behind))
    other-parent n none =
        sym (same-parent ys zs row.depth as-deep after n xs none)
        ∙ (ap (parent_of n) (sym whole) ∙ same-parent ys behind row.depth as-deep onward n front none)

    under-parent : (n : ℕ) → (number row ≡ n → ⊥) → 0 < count_of n ys → parent_of n (xs ++ (ys ++ zs)) ≡ parent_of n (front ++ (ys ++ behind))
    under-parent n differ some =
        parent-within row under xs zs deep climbs n differ (apart-front xs ys zs once n some) some
        ∙ sym (parent-within row under front behind deep climbs n differ (front-apart n some) some)

    other-order : (n m : ℕ) → count_of n ys ≡ 0 → count_of m ys ≡ 0 → comes_before n m (xs ++ (ys ++ zs)) ≡ comes_before n m (front ++ (ys ++ behind))
    other-order n m n_none m_none =
        sym (same-order ys zs row.depth as-deep after n m xs n_none m_none)
        ∙ (ap (comes_before n m) (sym whole) ∙ same-order ys behind row.depth as-deep onward n m front n_none m_none)

    under-order : (n m : ℕ) → 0 < count_of n ys → 0 < count_of m ys → comes_before n m (xs ++ (ys ++ zs)) ≡ comes_before n m (front ++ (ys ++ behind))
    under-order n m n_some m_some =
        order-within row under xs zs deep climbs n m (apart-front xs ys zs once n n_some) (apart-front xs ys zs once m m_some) m_some
        ∙ sym (order-within row under front behind deep climbs n m (front-apart n n_some) (front-apart m m_some) m_some)

    -- a row below one of them and another row that isn't below have different parents
    parents-differ : (n m : ℕ) (parent : Row) → (number row ≡ n → ⊥) → 0 < count_of n ys → count_of m ys ≡ 0
        → parent_of n (xs ++ (ys ++ zs)) ≡ Some parent → parent_of m (xs ++ (ys ++ zs)) ≡ Some parent → ⊥
    parents-differ n m parent differ some none n_was m_was =
        let one : 0 < count_of (number parent) ys = parent-under n parent differ some n_was in
        let two : 0 < count_of (number parent) (xs ++ zs) = parent-counted m (xs ++ zs) parent (same-parent ys zs row.depth as-deep after m xs none ∙ m_was) in
        omega (arith, two, apart-others xs ys zs once (number parent) one)

    module _ (node parent : NodeId) (own : number row ≡ node.0) (below : IsBelow (xs ++ (ys ++ zs)) node parent)
        (same : option_map number (parent_of (number row) (xs ++ (ys ++ zs))) ≡ option_map number (parent_of (number row) (front ++ (ys ++ behind)))) where
      abbrev went-by : List Edit
      went-by = Moved node parent ∷ []

      parents-stay : (n : ℕ) → option_map number (parent_of n (xs ++ (ys ++ zs))) ≡ option_map number (parent_of n (front ++ (ys ++ behind)))
      parents-stay n = elim (eq-zero-or-pos (count_of n ys)) [
        | inl none ↦ ap (option_map number) (other-parent n none)
        | inr some ↦ elim (cases_eq (number row) n) [
          | inl is ↦ subst (λ (m : ℕ). option_map number (parent_of m (xs ++ (ys ++ zs))) ≡ option_map number (parent_of m (front ++ (ys ++ behind)))) is same
          | inr differ ↦ ap (option_map number) (under-parent n differ some)
        ]
      ]

      -- the row that moves is named
      unnamed : (n : ℕ) (above : Row) → parent_of n (xs ++ (ys ++ zs)) ≡ Some above → list_any (names_moved n (number above)) went-by ≡ false → number row ≡ n → ⊥
      unnamed n above was none is =
          let at : n ≡ node.0 = sym is ∙ own in
          let mine : option_map (λ (row : Row). row.node) (parent_of n (xs ++ (ys ++ zs))) ≡ Some parent =
          ap (λ (m : ℕ). option_map (λ (row : Row). row.node) (parent_of m (xs ++ (ys ++ zs)))) at ∙ below in
          false≢true (sym none ∙ both-named n (number above) node parent at (ap (λ (node : NodeId). node.0) (the-node (parent_of n (xs ++ (ys ++ zs))) above parent was mine)))

      orders : (n m : ℕ) (above : Row) → parent_of n (xs ++ (ys ++ zs)) ≡ Some above → parent_of m (xs ++ (ys ++ zs)) ≡ Some above
          → (number row ≡ n → ⊥) → (number row ≡ m → ⊥) → comes_before n m (xs ++ (ys ++ zs)) ≡ comes_before n m (front ++ (ys ++ behind))
      orders n m above n_was m_was n_differs m_differs = elim (eq-zero-or-pos (count_of n ys)) [
        | inl n_none ↦ elim (eq-zero-or-pos (count_of m ys)) [
          | inl m_none ↦ other-order n m n_none m_none
          | inr m_some ↦ absurd (parents-differ m n above m_differs m_some n_none m_was n_was)
        ]
        | inr n_some ↦ elim (eq-zero-or-pos (count_of m ys)) [
          | inl m_none ↦ absurd (parents-differ n m above n_differs n_some m_none n_was m_was)
          | inr m_some ↦ under-order n m n_some m_some
        ]
      ]

      pub moved-leads : RowsLead went-by (xs ++ (ys ++ zs)) (front ++ (ys ++ behind))
      moved-leads = record {
        kept = λ n before new was is. same-leads went-by n before new (sym was ∙ (moved-at n ∙ is));
        mounted = λ n new above was is up. absurd (none-some new (row_at n (front ++ (ys ++ behind))) (sym (moved-at n) ∙ was) is);
        removed = λ n old above there was is up stays. absurd (none-some old (row_at n (xs ++ (ys ++ zs))) (moved-at n ∙ is) was);
        parents = λ n before new was is. parents-stay n;
        moved = λ n m above other n_was m_was n_is m_is n_stays m_stays.
            orders n m above n_was m_was (unnamed n above n_was n_stays) (unnamed m above m_was m_stays);
      }

-- ---- what a tree gives

counted-own : (row : Row) (rows : List Row) → 0 < count_of (number row) (row ∷ rows)
counted-own row rows = let own : has_number (number row) row ≡ true = eq-eqb _ _ refl in rw own (omega arith)

last-first : (depth : ℕ) (row : Row) (below : List Row) (found : Option Row) → row.depth + 1 ≡ depth → AreAsDeep (row.depth + 1) below → last_above depth found (row ∷ below) ≡ Some row
last-first depth row below found is deep =
    let above : (row.depth + 1 == depth) ≡ true = eq-eqb _ _ is in
    rw above (above-deep depth (Some row) below (subst (λ (d : ℕ). AreAsDeep d below) is deep))

unrefused : (b : Bool) (fault : TreeFault) (rest : Option TreeFault) → (if b then Some fault else rest) ≡ None → (b ≡ false) × (rest ≡ None)
unrefused true fault rest none = cc
unrefused false fault rest none = (refl, none)

neither : (a b : Bool) → (a || b) ≡ false → (a ≡ false) × (b ≡ false)
neither false b none = (refl, none)
neither true b none = absurd (false≢true (sym none))

not-not : (b : Bool) → not b ≡ false → b ≡ true
not-not true is = refl
not-not false is = absurd (false≢true (sym is))

there-is : (at : Option Row) → is_none at ≡ false → (row : Row) × (at ≡ Some row)
there-is None is = absurd (false≢true (sym is))
there-is (Some row) is = (row, refl)

same-option : (x y : Option ℕ) → option_eq nat_eq x y ≡ true → x ≡ y
same-option None None is = refl
same-option None (Some b) is = absurd (false≢true is)
same-option (Some a) None is = absurd (false≢true is)
same-option (Some a) (Some b) is = ap (λ (n : ℕ). Some n) (eqb-true a b is)

number-behind : (found : Option Row) (n : ℕ) → option_map number found ≡ Some n → (row : Row) × (found ≡ Some row) × (number row ≡ n)
number-behind None n is = cc
number-behind (Some row) n is = (row, refl, cc)

module _ (tree : TreeValue) (is : IsTree tree) (state : State) where
  climb : Climbs 0 tree.rows
  climb = tree-climbs tree.rows is.preorder

  leads : (edits : List Edit) (rows : List Row) → RowsLead edits tree.rows rows → Leads edits tree.rows state rows state
  leads edits rows lead = record { rows_lead = lead; state_leads = state-stays edits state }

  parent-there : (n : ℕ) (new : NewRow) (at : Option Row) → row_at n tree.rows ≡ at → refusal_below tree.rows tree.made new at ≡ None → (row : Row) × (row_at n tree.rows ≡ Some row)
  parent-there n new None there none = cc
  parent-there n new (Some row) there none = (row, there)

  is-fresh : (n : ℕ) → n ≡ tree.made + 1 → count_of n tree.rows ≡ 0
  is-fresh n next = elim (eq-zero-or-pos (count_of n tree.rows)) [
    | inl none ↦ none
    | inr some ↦ let range = is.in_range n some in absurd (omega (arith, range.1, next))
  ]

  module _ (parent node : NodeId) (new : NewRow) where
    abbrev front-rows : List Row
    front-rows = before_of parent.0 tree.rows ++ subtree_of parent.0 tree.rows

    abbrev after-rows : List Row
    after-rows = after_of parent.0 tree.rows

    abbrev new-row : Row
    new-row = placed new node.0 (depth_of parent.0 tree.rows + 1)

    mount-at : (row : Row) → row_at parent.0 tree.rows ≡ Some row → Cut parent.0 tree.rows row → node.0 ≡ tree.made + 1
        → RowsLead (Mounted node parent ∷ []) tree.rows (mounted parent.0 node.0 new tree.rows)
    mount-at row there c next =
        let depth-is : depth_of parent.0 tree.rows ≡ row.depth = ap (λ (o : Option Row). option_map_or (λ row. row.depth) o 0) there in
        let old-is : front-rows ++ after-rows ≡ tree.rows = append_assoc (before_of parent.0 tree.rows) (subtree_of parent.0 tree.rows) after-rows ∙ c.whole in
        let new-is : front-rows ++ (new-row ∷ after-rows) ≡ mounted parent.0 node.0 new tree.rows =
        append_assoc (before_of parent.0 tree.rows) (subtree_of parent.0 tree.rows) (new-row ∷ after-rows) in
        let fresh : count_of node.0 (front-rows ++ after-rows) ≡ 0 = ap (count_of node.0) old-is ∙ is-fresh node.0 next in
        let front : count_of node.0 front-rows ≡ 0 = omega (arith, fresh, count_of-append node.0 front-rows after-rows) in
        let above : last_above new-row.depth None front-rows ≡ Some row =
        above-append new-row.depth None (before_of parent.0 tree.rows) (subtree_of parent.0 tree.rows)
        ∙ (ap (λ (rs : List Row). last_above new-row.depth (last_above new-row.depth None (before_of parent.0 tree.rows)) rs) c.subtree
        ∙ last-first new-row.depth row c.below (last_above new-row.depth None (before_of parent.0 tree.rows)) (ap (λ (d : ℕ). d + 1) (sym depth-is)) c.deep) in
        let below : parent_of node.0 (front-rows ++ ((new-row ∷ []) ++ after-rows)) ≡ Some row =
        parent-first new-row [] front-rows after-rows tt (omega arith, tt) front (counted-own new-row []) ∙ above in
        let lead : RowsLead (Mounted node parent ∷ []) (front-rows ++ after-rows) (front-rows ++ ((new-row ∷ []) ++ after-rows)) =
        mounted-leads front-rows after-rows new-row row node parent refl (row-number parent.0 tree.rows row there)
        (climbs-more row.depth new-row.depth after-rows (omega (arith, depth-is)) c.after) fresh below in
        subst (λ (rs : List Row). RowsLead (Mounted node parent ∷ []) tree.rows rs) new-is
        (subst (λ (rs : List Row). RowsLead (Mounted node parent ∷ []) rs (front-rows ++ (new-row ∷ after-rows))) old-is lead)

  mount-leads : (parent node : NodeId) (new : NewRow) → mount_refusal tree.rows tree.made parent.0 new ≡ None → node.0 ≡ tree.made + 1
      → Leads (Mounted node parent ∷ []) tree.rows state (mounted parent.0 node.0 new tree.rows) state
  mount-leads parent node new none next =
      let found = parent-there parent.0 new (row_at parent.0 tree.rows) refl none in
      leads (Mounted node parent ∷ []) (mounted parent.0 node.0 new tree.rows)
      (mount-at parent node new found.0 found.1 (cut 0 parent.0 tree.rows found.0 climb found.1) next)

  child-at : (n : ℕ) (parent : NodeId) (at : Option Row) → row_at n tree.rows ≡ at → option_map (λ row. row.node) (parent_of n tree.rows) ≡ Some parent → (row : Row) × (row_at n tree.rows ≡ Some row)
  child-at n parent None there below =
      let clash : None ≡ Some parent = sym (ap (option_map (λ (row : Row). row.node)) (parent-none n tree.rows there)) ∙ below in cc
  child-at n parent (Some row) there below = (row, there)

  module _ (node parent : NodeId) (below : IsBelow tree.rows node parent) (row : Row) (there : row_at node.0 tree.rows ≡ Some row) (c : Cut node.0 tree.rows row) where
    abbrev ahead : List Row
    ahead = before_of node.0 tree.rows

    abbrev own-rows : List Row
    own-rows = row ∷ c.below

    abbrev later : List Row
    later = after_of node.0 tree.rows

    whole : ahead ++ (own-rows ++ later) ≡ tree.rows
    whole = ap (λ (rs : List Row). ahead ++ (rs ++ later)) (sym c.subtree) ∙ c.whole

    once : (n : ℕ) → count_of n (ahead ++ (own-rows ++ later)) ≤ 1
    once n = subst (λ (rs : List Row). count_of n rs ≤ 1) (sym whole) (is.once n)

    below-it : IsBelow (ahead ++ (own-rows ++ later)) node parent
    below-it = subst (λ (rs : List Row). IsBelow rs node parent) (sym whole) below

    own-number : number row ≡ node.0
    own-number = row-number node.0 tree.rows row there

    pub remove-leads : Leads (Removed node parent ∷ []) tree.rows state (removed node.0 tree.rows) state
    remove-leads =
        leads (Removed node parent ∷ []) (removed node.0 tree.rows)
        (subst (λ (rs : List Row). RowsLead (Removed node parent ∷ []) rs (ahead ++ later)) whole
        (removed-leads ahead later row c.below once c.deep c.climbs c.after node parent own-number below-it))

    -- what has the same parent is as deep
    as-deep-as : (m : ℕ) (other : Row) → row_at m tree.rows ≡ Some other → option_map number (parent_of node.0 tree.rows) ≡ option_map number (parent_of m tree.rows) → row.depth ≡ other.depth
    as-deep-as m other at same = by (parent_of node.0 tree.rows) refl below
      where
        by : (found : Option Row) → parent_of node.0 tree.rows ≡ found → option_map (λ (row : Row). row.node) found ≡ Some parent → row.depth ≡ other.depth
        by None none mine = let clash : None ≡ Some parent = mine in cc
        by (Some above) up mine =
            let numbers : option_map number (parent_of m tree.rows) ≡ Some (number above) = sym same ∙ ap (option_map number) up in
            let its = number-behind (parent_of m tree.rows) (number above) numbers in
            let one : row_at (number above) tree.rows ≡ Some above = parent-at tree.rows is.once node.0 above up in
            let two : row_at (number its.0) tree.rows ≡ Some its.0 = parent-at tree.rows is.once m its.0 its.1 in
            let e : above ≡ its.0 = same-row above its.0 (sym one ∙ (ap (λ (n : ℕ). row_at n tree.rows) (sym its.2) ∙ two)) in
            let first = parent-depth node.0 tree.rows row above there up in
            let second = parent-depth m tree.rows other its.0 at its.1 in
            omega (arith, first, second, ap (λ (r : Row). r.depth) e)

    module _ (other : Row) (m : ℕ) (at : row_at m tree.rows ≡ Some other) (differ : node.0 ≡ m → ⊥)
        (same : option_map number (parent_of node.0 tree.rows) ≡ option_map number (parent_of m tree.rows)) where
      depths : row.depth ≡ other.depth
      depths = as-deep-as m other at same

      at-whole : row_at m (ahead ++ (own-rows ++ later)) ≡ Some other
      at-whole = ap (row_at m) whole ∙ at

      -- the other one isn't below the row that moves
      elsewhere : count_of m own-rows ≡ 0
      elsewhere = elim (eq-zero-or-pos (count_of m own-rows)) [
        | inl none ↦ none
        | inr some ↦
            let found = counted-at m own-rows some in
            let within : row_at m (ahead ++ (own-rows ++ later)) ≡ row_at m own-rows = at-within row c.below ahead later c.deep c.climbs m (apart-front ahead own-rows later once m some) some in
            let e : found.0 ≡ other = same-row found.0 other (sym found.1 ∙ (sym within ∙ at-whole)) in
            let under : row_at m c.below ≡ Some found.0 = behind-at m row c.below found.0 (λ own. differ (sym own-number ∙ own)) found.1 in
            let lower = depth-at m (row.depth + 1) c.below found.0 c.deep under in
            absurd (omega (arith, lower, depths, ap (λ (r : Row). r.depth) e))
      ]

      abbrev front : List Row
      front = before_of m (ahead ++ later)

      abbrev behind : List Row
      behind = from_of m (ahead ++ later)

      all-as-deep : AreAsDeep row.depth own-rows
      all-as-deep = as-deep ahead later row c.below once c.deep c.climbs c.after

      at-others : row_at m (ahead ++ later) ≡ Some other
      at-others = same-at own-rows later row.depth all-as-deep c.after m ahead elsewhere ∙ at-whole

      rest-climbs : Climbs 0 (ahead ++ later)
      rest-climbs = join-climbs 0 ahead row (c.below ++ later) later (subst (λ (rs : List Row). Climbs 0 rs) (sym whole) climb) c.after

      onward : Climbs row.depth behind
      onward = subst (λ (d : ℕ). Climbs d behind) (sym depths) (from-climbs 0 m (ahead ++ later) other rest-climbs at-others)

      rest-whole : front ++ behind ≡ ahead ++ later
      rest-whole = split-whole m (ahead ++ later)

      -- the row that moves has the other one's parent where it stands then
      moved-parent : parent_of (number row) (front ++ (own-rows ++ behind)) ≡ parent_of m tree.rows
      moved-parent =
          parent-first row c.below front behind c.deep c.climbs (front-apart ahead later row c.below once c.deep c.climbs c.after front behind rest-whole onward (number row) (counted-own row c.below)) (counted-own row c.below)
          ∙ (ap (λ (d : ℕ). last_above d None front) depths
          ∙ (sym (parent-is m (ahead ++ later) other at-others)
          ∙ (same-parent own-rows later row.depth all-as-deep c.after m ahead elsewhere ∙ ap (parent_of m) whole)))

      same-parents : option_map number (parent_of (number row) (ahead ++ (own-rows ++ later))) ≡ option_map number (parent_of (number row) (front ++ (own-rows ++ behind)))
      same-parents =
          ap (λ (rs : List Row). option_map number (parent_of (number row) rs)) whole
          ∙ (ap (λ (n : ℕ). option_map number (parent_of n tree.rows)) own-number ∙ (same ∙ ap (option_map number) (sym moved-parent)))

      moving : RowsLead (Moved node parent ∷ []) (ahead ++ (own-rows ++ later)) (front ++ (own-rows ++ behind))
      moving = moved-leads ahead later row c.below once c.deep c.climbs c.after front behind rest-whole onward node parent own-number below-it same-parents

      pub move-leads : Leads (Moved node parent ∷ []) tree.rows state (moved node.0 m tree.rows) state
      move-leads =
          leads (Moved node parent ∷ []) (moved node.0 m tree.rows)
          (subst (λ (rs : List Row). RowsLead (Moved node parent ∷ []) rs (moved node.0 m tree.rows)) whole
          (subst (λ (rs : List Row). RowsLead (Moved node parent ∷ []) (ahead ++ (own-rows ++ later)) (front ++ (rs ++ behind))) (sym c.subtree) moving))

  -- ---- all three

  removing : (node parent : NodeId) → IsBelow tree.rows node parent → Leads (Removed node parent ∷ []) tree.rows state (removed node.0 tree.rows) state
  removing node parent below =
      let found = child-at node.0 parent (row_at node.0 tree.rows) refl below in
      remove-leads node parent below found.0 found.1 (cut 0 node.0 tree.rows found.0 climb found.1)

  abbrev siblings : NodeId → NodeId → Option TreeFault
  siblings n m = if n.0 == m.0 || not (have_one_parent tree.rows n.0 m.0) then Some NotSiblings else None

  moving-before : (node before parent : NodeId) → IsBelow tree.rows node parent → move_refusal tree.rows node.0 before.0 ≡ None
      → Leads (Moved node parent ∷ []) tree.rows state (moved node.0 before.0 tree.rows) state
  moving-before node before parent below none =
      let found = child-at node.0 parent (row_at node.0 tree.rows) refl below in
      let first = unrefused (is_none (row_at node.0 tree.rows) || is_none (row_at before.0 tree.rows)) NoNode (siblings node before) none in
      let second = unrefused (node.0 == before.0 || not (have_one_parent tree.rows node.0 before.0)) NotSiblings None first.1 in
      let other = there-is (row_at before.0 tree.rows) (neither (is_none (row_at node.0 tree.rows)) (is_none (row_at before.0 tree.rows)) first.0).1 in
      let apart = neither (node.0 == before.0) (not (have_one_parent tree.rows node.0 before.0)) second.0 in
      move-leads node parent below found.0 found.1 (cut 0 node.0 tree.rows found.0 climb found.1) other.0 before.0 other.1 (eqb-false node.0 before.0 apart.0)
      (same-option (option_map number (parent_of node.0 tree.rows)) (option_map number (parent_of before.0 tree.rows)) (not-not (have_one_parent tree.rows node.0 before.0) apart.1))

  changes-lead : ChangesOfTreesLead tree state
  changes-lead = record { mount = mount-leads; remove = removing; move_before = moving-before }

pub tree-edits-lead : TreeEditsLead
tree-edits-lead tree state is = changes-lead tree is state
