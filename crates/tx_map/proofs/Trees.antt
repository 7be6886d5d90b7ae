-- The rows of a tree, and the whole map by its first row.
use Rattle.std.proofs.Common.{◌≡◌, ℕ, suc, ◌+◌, ◌*◌, ◌≤◌, Bool, true, false, cond, List, [], ◌∷◌, length, Ok, ◌∙◌, sym, ap, subst, arith}
use Rattle.std.proofs.lemmas.List.Elements.{All-cons, All-nil}
use Rattle.std.specs.Prelude.{All}
use Rattle.tx_map.specs.Faults.{IsBehind}
use Rattle.tx_map.specs.LayoutMap.{Mapped, entries_from, layout_map, screen_place}
use Rattle.tx_map.specs.Scene.{Scene}
use Rattle.tx_map.specs.Subtrees.{IsRooted, rows_below, setting, subtree_entries}
use Rattle.tx_map.specs.Ticks.{container_count, container_number, containers_below}
use Rattle.tx_map.specs.declared.entry.Entry.{Entry}
use Rattle.tx_map.proofs.Wholes.{set_over}
use Rattle.tx_sizes.specs.Counts.{is_deeper}
use Rattle.tx_sizes.specs.Forest.{Styled, Styles, depth, forest, styled, styled_rows}
use Rattle.tx_tree.specs.Kind.{holds_children}
use Rattle.tx_tree.specs.WellFormed.{IsPreorder, MayAllFollow}
use Rattle.tx_tree.specs.declared.row.Row.{Row}

all_shallow : (styles : Styles) (last : Row) (rows : List Row) → MayAllFollow last rows → All (λ row. depth row ≤ 63) (styled_rows styles rows)
all_shallow styles last [] h = All-nil (λ row. depth row ≤ 63)
all_shallow styles last (row ∷ rows) h = All-cons (λ row. depth row ≤ 63) (styled styles row) (styled_rows styles rows) h.0.shallow (all_shallow styles row rows h.1)

head_is : {A : Type 0} (a b : A) (xs ys : List A) → a ∷ xs ≡ b ∷ ys → a ≡ b
head_is a b xs ys p = cc

tail_is : {A : Type 0} (a b : A) (xs ys : List A) → a ∷ xs ≡ b ∷ ys → xs ≡ ys
tail_is a b xs ys p = cc

pub rooted : (styles : Styles) (rows : List Row) (own : Styled) (behind : List Styled) → IsPreorder rows → styled_rows styles rows ≡ own ∷ behind → IsRooted own behind
rooted styles [] own behind preorder is = absurd preorder
rooted styles (row ∷ rows) own behind preorder is = record {
  first = ap depth (sym (head_is (styled styles row) own (styled_rows styles rows) behind is)) ∙ preorder.0.depth;
  deep = subst (All (λ row. depth row ≤ 63)) (tail_is (styled styles row) own (styled_rows styles rows) behind is) (all_shallow styles row rows preorder.1);
}

-- the map is what the first row gives
pub map_is : (scene : Scene) (own : Styled) (behind : List Styled) → styled_rows scene.styles scene.rows ≡ own ∷ behind
    → layout_map scene ≡ subtree_entries (setting scene.pictures scene.scrolls scene.size) own behind (screen_place scene.size)
unfolding forest
map_is scene own behind is = ap (λ rows. entries_from scene (forest rows)) is ∙ set_over scene own (rows_below own behind) (screen_place scene.size)

pub all_mapped : {whole meant : Mapped (List Entry)} {found : List Entry} → whole ≡ meant → IsBehind [] found meant → whole ≡ Ok found
all_mapped is got = is ∙ got.all ∙ ap (λ es. Ok es) (sym got.behind)

-- there are no more containers than rows
few_containers : (rows : List Row) → container_count rows ≤ length rows
unfolding container_count
few_containers [] = omega arith
few_containers (row ∷ rows) = one_more (holds_children row.kind) (container_count rows) (length rows) (few_containers rows)
  where
    one_more : (holds : Bool) (m n : ℕ) → m ≤ n → cond holds 1 0 + m ≤ suc n
    one_more true m n h = omega (arith, h)
    one_more false m n h = omega (arith, h)

-- nor more below a depth than in all
all_containers : (styles : Styles) (d : ℕ) (rows : List Row) → containers_below d (styled_rows styles rows) ≤ container_count rows
unfolding containers_below container_count
all_containers styles d [] = omega arith
all_containers styles d (row ∷ rows) = by (is_deeper d (styled styles row)) (container_number row) (containers_below d (styled_rows styles rows)) (container_count rows) (all_containers styles d rows)
  where
    by : (deep : Bool) (own m n : ℕ) → m ≤ n → cond deep (own + m) 0 ≤ own + n
    by true own m n h = omega (arith, h)
    by false own m n h = omega arith

-- the containers of the first row and of those below it are some of all
pub own_containers : (styles : Styles) (rows : List Row) (own : Styled) (behind : List Styled) → styled_rows styles rows ≡ own ∷ behind
    → 4 * (container_number own.row + containers_below (depth own) behind) ≤ 4 * container_count rows
unfolding container_count
own_containers styles [] own behind is = cc
own_containers styles (row ∷ rows) own behind is =
    let first : container_number own.row ≡ container_number row = ap (λ (r : Styled). container_number r.row) (sym (head_is (styled styles row) own (styled_rows styles rows) behind is)) in
    let rest : containers_below (depth own) (styled_rows styles rows) ≤ container_count rows = all_containers styles (depth own) rows in
    let same : containers_below (depth own) (styled_rows styles rows) ≡ containers_below (depth own) behind = ap (containers_below (depth own)) (tail_is (styled styles row) own (styled_rows styles rows) behind is) in
    omega (arith, first, rest, same)

pub few_arranged : (rows : List Row) → 4 * container_count rows ≤ 4 * length rows
few_arranged rows = let few = few_containers rows in omega (arith, few)
