-- Leaf by leaf.
use Rattle.std.proofs.Common.{◌≡◌, ℕ, List, Option, arith, ap, sym, ◌∙◌, is_some, true, inl, inr}
use Rattle.std.proofs.lemmas.Bool.{cases_eq}
use Rattle.tx_tree.specs.Links.{slots, rows_of, children_in}
use Rattle.tx_tree.specs.Rows.{after_of}
use Rattle.tx_tree.specs.declared.tree.node.Node.{Node}
use Rattle.tx_tree.proofs.LastLeaf.{leaf_gone}
use Rattle.tx_tree.proofs.tree.remove.remove_node.Goals as goal

pub loop-leaf-smaller : goal.loop-leaf-smaller
loop-leaf-smaller c =
    (leaf_gone c.loop-leaf.invariant.kept.linked c.args.n c.loop-leaf.leaf c.loop-leaf.invariant.live c.loop-leaf.invariant.there
    c.loop-leaf.invariant.bare c.loop-leaf.invariant.last c.loop-leaf-test.true _ c.remove_leaf.ensures.rows).1

pub loop-leaf-preserved : goal.loop-leaf-preserved
loop-leaf-preserved c = record {
  kept = c.remove_leaf.ensures.kept;
  live = c.remove_leaf.ensures.others c.args.n (λ e. c.loop-leaf-test.true (sym e)) ∙ c.loop-leaf.invariant.live;
  made = c.remove_leaf.ensures.made ∙ c.loop-leaf.invariant.made;
  rows =
      (leaf_gone c.loop-leaf.invariant.kept.linked c.args.n c.loop-leaf.leaf c.loop-leaf.invariant.live c.loop-leaf.invariant.there
      c.loop-leaf.invariant.bare c.loop-leaf.invariant.last c.loop-leaf-test.true _ c.remove_leaf.ensures.rows).0
      ∙ c.loop-leaf.invariant.rows;
  room = λ k live.
      let was : is_some (slots c.loop-leaf.nodes.items k) ≡ true = elim (cases_eq k c.loop-leaf.leaf) [
        | inl e ↦ ap (λ (z : ℕ). is_some (slots c.loop-leaf.nodes.items z)) e ∙ c.loop-leaf.invariant.there
        | inr ne ↦ sym (c.remove_leaf.ensures.others k ne) ∙ live
      ] in
      let less = c.loop-leaf.invariant.room k was in
      let more = c.remove_leaf.ensures.room k live in
      omega (arith, less, more);
  there = ap (λ (z : List (Option Node)). is_some (slots z c.last_leaf-leaf-in-loop-leaf.result)) (sym c.deref-in-loop-leaf.ensures.value) ∙ c.last_leaf-leaf-in-loop-leaf.ensures.live;
  bare = ap (λ (z : List (Option Node)). children_in (slots z c.last_leaf-leaf-in-loop-leaf.result)) (sym c.deref-in-loop-leaf.ensures.value) ∙ c.last_leaf-leaf-in-loop-leaf.ensures.leaf;
  last =
      ap (λ (z : List (Option Node)). after_of c.last_leaf-leaf-in-loop-leaf.result (rows_of (slots z))) (sym c.deref-in-loop-leaf.ensures.value)
      ∙ (c.last_leaf-leaf-in-loop-leaf.ensures.last ∙ ap (λ (z : List (Option Node)). after_of c.args.n (rows_of (slots z))) c.deref-in-loop-leaf.ensures.value);
  not_first = c.last_leaf-leaf-in-loop-leaf.ensures.not_first c.requires.not_first;
}
