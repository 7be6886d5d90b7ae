use Rattle.std.proofs.Common.{◌≡◌, List, ◌∷◌, drop, ◌∙◌, ap, sym, subst}
use Rattle.tx_cascade.specs.Styles.{all_styles}
use Rattle.tx_map.proofs.Ticking.{arranged_more}
use Rattle.tx_map.proofs.Trees.{few_arranged, map_is, own_containers, rooted}
use Rattle.tx_map.specs.Faults.{told}
use Rattle.tx_map.specs.LayoutMap.{Mapped}
use Rattle.tx_map.specs.Present.{scene_of}
use Rattle.tx_map.specs.declared.entry.Entry.{Entry}
use Rattle.tx_node_map.specs.Held.{held}
use Rattle.tx_read.specs.Answer.{Gives}
use Rattle.tx_sizes.specs.Forest.{Styled, styled_rows}
use Rattle.tx_tree.specs.declared.row.Row.{Row}
use Rattle.tx_map.proofs.map.entries_of.Goals as goal

pub entries_from-requires-clause-rooted : goal.entries_from-requires-clause-rooted
entries_from-requires-clause-rooted g c =
    let styles = c.args.styles.now in
    let own = c.first_of.result.now in
    let behind = c.behind_first.result.0.now in
    let same = c.deref-4.ensures.value ∙ sym c.deref-2.ensures.value in
    let is : styled_rows (all_styles styles.sheet styles.state c.args.tree.now.rows) c.args.tree.now.rows ≡ own ∷ behind =
    sym c.in-Ok.ensures.exact ∙ sym c.deref-4.ensures.value ∙ c.first_of.ensures ∙ ap (λ (rs : List Styled). own ∷ drop 1 rs) same
    ∙ ap (λ (rs : List Styled). own ∷ rs) (sym c.behind_first.ensures.rows) in
    rooted (all_styles styles.sheet styles.state c.args.tree.now.rows) c.args.tree.now.rows own behind c.root-root.ensures.known.preorder is

pub returns-clause-exact : goal.returns-clause-exact
returns-clause-exact g c =
    let styles = c.args.styles.now in
    let scene = scene_of styles (held c.args.scrolls.now) c.args.size in
    let own = c.first_of.result.now in
    let behind = c.behind_first.result.0.now in
    let same = c.deref-4.ensures.value ∙ sym c.deref-2.ensures.value in
    let is : styled_rows (all_styles styles.sheet styles.state c.args.tree.now.rows) c.args.tree.now.rows ≡ own ∷ behind =
    sym c.in-Ok.ensures.exact ∙ sym c.deref-4.ensures.value ∙ c.first_of.ensures ∙ ap (λ (rs : List Styled). own ∷ drop 1 rs) same
    ∙ ap (λ (rs : List Styled). own ∷ rs) (sym c.behind_first.ensures.rows) in
    let all : styled_rows scene.styles scene.rows ≡ own ∷ behind =
    ap (λ (rows : List Row). styled_rows (all_styles styles.sheet styles.state rows) rows) c.requires.same ∙ is in
    subst (λ (meant : Mapped (List Entry)). Gives (λ entries. entries.items) told c.entries_from.result meant) (sym (map_is scene own behind all)) c.entries_from.ensures.exact

pub returns-clause-containers : goal.returns-clause-containers
returns-clause-containers g c =
    let styles = c.args.styles.now in
    let own = c.first_of.result.now in
    let behind = c.behind_first.result.0.now in
    let same = c.deref-4.ensures.value ∙ sym c.deref-2.ensures.value in
    let is : styled_rows (all_styles styles.sheet styles.state c.args.tree.now.rows) c.args.tree.now.rows ≡ own ∷ behind =
    sym c.in-Ok.ensures.exact ∙ sym c.deref-4.ensures.value ∙ c.first_of.ensures ∙ ap (λ (rs : List Styled). own ∷ drop 1 rs) same
    ∙ ap (λ (rs : List Styled). own ∷ rs) (sym c.behind_first.ensures.rows) in
    arranged_more c.entries_from.ensures.ticks (own_containers (all_styles styles.sheet styles.state c.args.tree.now.rows) c.args.tree.now.rows own behind is)

pub returns-clause-ticks : goal.returns-clause-ticks
returns-clause-ticks g c = arranged_more (returns-clause-containers g c) (few_arranged c.args.tree.now.rows)
