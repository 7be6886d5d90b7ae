-- The tree of a Screen alone.
use Rattle.std.proofs.Common.{◌≡◌, ℕ, zero, suc, true, cond, List, [], ◌∷◌, ◌++◌, Option, Some, None, refl, sym, ap, ◌∙◌, arith, lit≤, set, inl, inr}
use Rattle.std.specs.Prelude.{unwrap_or}
use Rattle.std.proofs.lemmas.Bool.{cases_Bool, cond-true, cond-false}
use Rattle.tx_tree.proofs.Linked.{rows_at-node, rows_of-is}
use Rattle.tx_tree.proofs.lemmas.NumbersAndIds.{id_from_test}
use Rattle.tx_tree.proofs.Ids.{test_from_id}
use Rattle.tx_tree.proofs.MountedNodes.{leaf_node}
use Rattle.tx_tree.proofs.Mounting.{node-same}
use Rattle.tx_tree.specs.Kind.{is_screen}
use Rattle.tx_tree.specs.Row.{plain, placed}
use Rattle.tx_tree.specs.Rows.{has_id}
use Rattle.tx_tree.specs.Links.{slots, rows_of, id_in, children_in, behind_in, IsNode, KeepsNext, IsKept}
use Rattle.tx_tree.specs.declared.row.Row.{Row}
use Rattle.tx_tree.specs.declared.row.NewRow.{NewRow}
use Rattle.tx_tree.specs.declared.tree.node.Node.{Node}

-- the slots of a Screen alone
abbrev pub alone : Row → List (Option Node)
alone own = None ∷ (Some (leaf_node own 0) ∷ [])

module _ (row : NewRow) (own : Row) (own-is : plain own ≡ placed row 1 0) (screen : is_screen row.kind ≡ true) where
  first : IsNode (slots (alone own)) 1 (leaf_node own 0)
  first = record {
    numbered = ap (λ (r : Row). r.node.0) own-is;
    shallow = (let d = ap (λ (r : Row). r.depth) own-is in omega (arith, d));
    points_back = λ k a. absurd (omega (arith, a));
    may_hold = λ k a. absurd (omega (arith, a));
    listed = λ ne. absurd (ne refl);
    not_screen = λ ne. absurd (ne refl);
    is_root = λ e. ap (λ (r : Row). is_screen r.kind) own-is ∙ screen;
  }

  node : (n : ℕ) (found : Node) → slots (alone own) n ≡ Some found → IsNode (slots (alone own)) n found
  node zero found h = cc
  node (suc zero) found h = rw (← node-same h) first
  node (suc (suc n)) found h = cc

  pub kept-alone : (nodes : List (Option Node)) (behind : List ℕ) (find : List ℕ → Option ℕ) → nodes ≡ alone own → behind ≡ 1 ∷ (0 ∷ [])
      → ((name : List ℕ) → find name ≡ cond (has_id name own) (Some 1) None) → IsKept nodes behind find
  kept-alone nodes behind find e f finds = rw (e, f) (record {
    linked = record {
      nowhere = refl;
      root = ap (λ (d : ℕ). Some (0, d)) (ap (λ (r : Row). r.depth) own-is);
      nodes = node;
    };
    next = next;
    ids = record { found = found; known = known };
    as_long = refl;
    few = lit≤ tt;
  }) where
    next : KeepsNext (slots (alone own)) (1 ∷ (0 ∷ []))
    next zero parent depth h = cc
    next (suc zero) parent depth h =
        let up : 0 ≡ parent = ap (λ (o : Option (ℕ × ℕ)). (unwrap_or o (0, 0)).0) h in
        ap (λ (z : ℕ). behind_in 1 (children_in (slots (alone own) z))) up
    next (suc (suc n)) parent depth h = cc

    found : (name : List ℕ) (n : ℕ) → id_in (slots (alone own) n) ≡ Some name → find name ≡ Some n
    found name zero h = cc
    found name (suc zero) h = finds name ∙ cond-true _ _ _ (test_from_id own.id name h)
    found name (suc (suc n)) h = cc

    known : (name : List ℕ) (n : ℕ) → find name ≡ Some n → id_in (slots (alone own) n) ≡ Some name
    known name n h = elim (cases_Bool (has_id name own)) [
      | inl same-id ↦
          let number : 1 ≡ n = ap (λ (o : Option ℕ). unwrap_or o 0) (sym (finds name ∙ cond-true _ _ _ same-id) ∙ h) in
          ap (λ (z : ℕ). id_in (slots (alone own) z)) (sym number) ∙ id_from_test own.id name same-id
      | inr other-id ↦ let bad : None ≡ Some n = sym (finds name ∙ cond-false _ _ _ other-id) ∙ h in cc
    ]

  pub rows-alone : (nodes : List (Option Node)) → nodes ≡ alone own → rows_of (slots nodes) ≡ placed row 1 0 ∷ []
  rows-alone nodes e = rw e (rows_of-is (slots (alone own)) ∙ (rows_at-node 63 (slots (alone own)) 1 (leaf_node own 0) refl ∙ ap (λ (r : Row). r ∷ []) own-is))

-- what the first mount leaves, from its steps
pub first-nodes : (n0 n1 n2 n3 : List (Option Node)) (own : Row) (children : List ℕ)
    → n0 ≡ [] → n1 ≡ n0 ++ None ∷ [] → n2 ≡ n1 → children ≡ []
    → n3 ≡ n2 ++ (Some (record { row = own; parent = 0; children = children }) ∷ []) → n3 ≡ alone own
first-nodes n0 n1 n2 n3 own children e0 e1 e2 ec e3 =
    e3 ∙ (ap (λ (z : List (Option Node)). z ++ (Some (record { row = own; parent = 0; children = children }) ∷ []))
    (e2 ∙ (e1 ∙ ap (λ (z : List (Option Node)). z ++ (None ∷ [])) e0))
    ∙ ap (λ (ks : List ℕ). None ∷ (Some (record { row = own; parent = 0; children = ks }) ∷ [])) ec)

pub first-behind : (b0 b1 b2 b3 : List ℕ) (row : NewRow) (own : Row) → plain own ≡ placed row 1 0
    → b0 ≡ [] → b1 ≡ b0 ++ 0 ∷ [] → b2 ≡ b1 → b3 ≡ set b2 0 own.node.0 ++ (0 ∷ []) → b3 ≡ 1 ∷ (0 ∷ [])
first-behind b0 b1 b2 b3 row own own-is e0 e1 e2 e3 =
    e3 ∙ (ap (λ (z : List ℕ). set z 0 own.node.0 ++ (0 ∷ [])) (e2 ∙ (e1 ∙ ap (λ (z : List ℕ). z ++ (0 ∷ [])) e0))
    ∙ ap (λ (z : ℕ). z ∷ (0 ∷ [])) (ap (λ (r : Row). r.node.0) own-is))

pub first-ids : (f0 f1 f3 : List ℕ → Option ℕ) (row : NewRow) (own : Row) → plain own ≡ placed row 1 0
    → ((name : List ℕ) → f0 name ≡ None) → ((name : List ℕ) → f1 name ≡ f0 name)
    → ((name : List ℕ) → f3 name ≡ cond (has_id name own) (Some own.node.0) (f1 name))
    → (name : List ℕ) → f3 name ≡ cond (has_id name own) (Some 1) None
first-ids f0 f1 f3 row own own-is e0 e1 e3 name =
    e3 name ∙ (ap (λ (z : ℕ). cond (has_id name own) (Some z) (f1 name)) (ap (λ (r : Row). r.node.0) own-is)
    ∙ ap (λ (o : Option ℕ). cond (has_id name own) (Some 1) o) (e1 name ∙ e0 name))
