-- Whose entries a map has.
use Rattle.std.proofs.Common.{◌≡◌, ℕ, ◌+◌, ◌≤◌, Bool, true, false, cond, List, [], ◌∷◌, ◌++◌, drop, Option, Some, None, Ok, Err, ◌∙◌, refl, sym, ap, subst, inl, inr, eq-eqb, eqb-true, true≢false, arith}
use Rattle.std.proofs.lemmas.List.Elements.{All-cons, All-head, All-nil, All-tail}
use Rattle.std.specs.Prelude.{◌==◌, ⊤, ◌⊎◌, All}
use Rattle.tx_geom.specs.declared.places.Region.{Region}
use Rattle.tx_layout.specs.declared.styles.BoxStyle.{BoxStyle}
use Rattle.tx_map.specs.LayoutMap.{Mapped, Place, Container, entries, entries_if, entries_from, first_region, row_entries, child_place, container, entry_at, screen_place}
use Rattle.tx_map.specs.Laws.{EntriesAreOfRows, NodesHaveOneEntry}
use Rattle.tx_map.specs.Lookup.{entry_of, is_of}
use Rattle.tx_map.specs.Nodes.{AreOfRows, entry_count}
use Rattle.tx_map.specs.Scene.{Scene, rows_of}
use Rattle.tx_map.specs.declared.entry.Entry.{Entry}
use Rattle.tx_map.proofs.Wholes.{is_mapped}
use Rattle.tx_read.specs.Reading.{◌>>=◌}
use Rattle.tx_sizes.specs.Forest.{Styled, Styles, Forest, Empty, Grown, preorder, styled_rows}
use Rattle.tx_sizes.specs.Laws.{KeepsRows}
use Rattle.tx_sizes.specs.Measures.{Measure, boxes, is_taking_part, measures}
use Rattle.tx_tree.specs.Row.{has_number}
use Rattle.tx_tree.specs.Rows.{count_of}
use Rattle.tx_tree.specs.declared.row.NodeId.{NodeId}
use Rattle.tx_tree.specs.declared.row.Row.{Row}

-- ---- entries of some rows

-- the same of rows with their styles
abbrev AreOf : List Entry → List Styled → Type 0
AreOf [] rows = ⊤
AreOf (entry ∷ entries) [] = ⊥
AreOf (entry ∷ entries) (row ∷ rows) = ((entry.node ≡ row.row.node) × AreOf entries rows) ⊎ AreOf (entry ∷ entries) rows

one_more : (es : List Entry) (row : Styled) (rows : List Styled) → AreOf es rows → AreOf es (row ∷ rows)
one_more [] row rows h = h
one_more (e ∷ es) row rows h = inr h

more : (es : List Entry) (front rows : List Styled) → AreOf es rows → AreOf es (front ++ rows)
more es [] rows h = h
more es (row ∷ front) rows h = one_more es row (front ++ rows) (more es front rows h)

joined : (es others : List Entry) (front rows : List Styled) → AreOf es front → AreOf others rows → AreOf (es ++ others) (front ++ rows)
joined [] others front rows a b = more others front rows b
joined (e ∷ es) others [] rows a b = absurd a
joined (e ∷ es) others (row ∷ front) rows (inl a) b = inl (a.0, joined es others front rows a.1 b)
joined (e ∷ es) others (row ∷ front) rows (inr a) b = inr (joined (e ∷ es) others front rows a b)

unstyled : (styles : Styles) (es : List Entry) (rows : List Row) → AreOf es (styled_rows styles rows) → AreOfRows es rows
unstyled styles [] rows h = h
unstyled styles (e ∷ es) [] h = h
unstyled styles (e ∷ es) (row ∷ rows) (inl h) = inl (h.0, unstyled styles es rows h.1)
unstyled styles (e ∷ es) (row ∷ rows) (inr h) = inr (unstyled styles (e ∷ es) rows h)

-- ---- the entries of a map

-- a list of entries is of these rows
abbrev Gets : List Styled → Mapped (List Entry) → Type 0
Gets rows r = (es : List Entry) → r ≡ Ok es → AreOf es rows

both : (front rows : List Styled) (own others : Mapped (List Entry)) → Gets front own → Gets rows others → Gets (front ++ rows) (own >>= (λ xs. others >>= (λ ys. Ok (xs ++ ys))))
both front rows (Ok xs) (Ok ys) a b es is = subst (λ (l : List Entry). AreOf l (front ++ rows)) (let e : xs ++ ys ≡ es = cc in e) (joined xs ys front rows (a xs refl) (b ys refl))
both front rows (Ok xs) (Err fault) a b es is = cc
both front rows (Err fault) others a b es is = cc

row_gets : (scene : Scene) (row : Styled) (bs : List BoxStyle) (ms : List Measure) (place : Place) (children : Container → List (Option Region) → Mapped (List Entry)) (below : List Styled)
    → ((above : Container) (regions : List (Option Region)) → Gets below (children above regions)) → Gets (row ∷ below) (row_entries scene row bs ms children place)
row_gets scene row bs ms place children below so es is =
    let m = is_mapped scene row bs ms place children es is in
    let rest : AreOf m.rest below = so (container scene row place m.bars) m.bars.arrangement.placed m.rest m.below in
    subst (λ (l : List Entry). AreOf l (row ∷ below)) (sym m.all) (let front : AreOf (entry_at scene row place m.bars ∷ m.rest) (row ∷ below) = inl (refl, rest) in front)

region_gets : (scene : Scene) (row : Styled) (bs : List BoxStyle) (ms : List Measure) (above : Container) (place : ℕ) (children : Container → List (Option Region) → Mapped (List Entry)) (below : List Styled)
    → ((within : Container) (regions : List (Option Region)) → Gets below (children within regions)) → (region : Option Region)
    → Gets (row ∷ below) (entries_if (λ r. row_entries scene row bs ms children (child_place above row place r)) region)
region_gets scene row bs ms above place children below so None es is = subst (λ (l : List Entry). AreOf l (row ∷ below)) (let e : [] ≡ es = cc in e) tt
region_gets scene row bs ms above place children below so (Some region) es is = row_gets scene row bs ms (child_place above row place region) children below so es is

unshown : (rows skipped : List Styled) (r : Mapped (List Entry)) → Gets rows r → Gets (skipped ++ rows) r
unshown rows skipped r h es is = more es skipped rows (h es is)

part_gets : (row : Styled) (below rows : List Styled) (part : Bool) (own rest others : Mapped (List Entry)) → Gets (row ∷ below) own → Gets rows rest → Gets rows others
    → Gets (row ∷ (below ++ rows)) (cond part (own >>= (λ xs. rest >>= (λ ys. Ok (xs ++ ys)))) others)
part_gets row below rows true own rest others a b c = both (row ∷ below) rows own rest a b
part_gets row below rows false own rest others a b c = unshown rows (row ∷ below) others c

all_get : (scene : Scene) (f : Forest) (above : Container) (place : ℕ) (regions : List (Option Region)) → Gets (preorder f) (entries scene f above place regions)
unfolding entries
all_get scene Empty above place regions es is = subst (λ (l : List Entry). AreOf l []) (let e : [] ≡ es = cc in e) tt
all_get scene (Grown row below beside) above place regions es is =
    part_gets row (preorder below) (preorder beside) (is_taking_part row) _ _ _
    (region_gets scene row (boxes row.style below) (measures scene.pictures scene.size below) above place (λ within. entries scene below within 0) (preorder below) (λ within rs. all_get scene below within 0 rs) (first_region regions))
    (all_get scene beside above (place + 1) (drop 1 regions))
    (all_get scene beside above (place + 1) regions) es is

map_gets : (scene : Scene) (f : Forest) → Gets (preorder f) (entries_from scene f)
map_gets scene Empty es is = subst (λ (l : List Entry). AreOf l []) (let e : [] ≡ es = cc in e) tt
map_gets scene (Grown row below beside) es is =
    let own = row_gets scene row (boxes row.style below) (measures scene.pictures scene.size below) (screen_place scene.size) (λ within. entries scene below within 0) (preorder below) (λ above rs. all_get scene below above 0 rs) es is in
    fewer es (row ∷ preorder below) (preorder beside) own
  where
    fewer : (es : List Entry) (front rows : List Styled) → AreOf es front → AreOf es (front ++ rows)
    fewer [] front rows h = tt
    fewer (e ∷ es) [] rows h = absurd h
    fewer (e ∷ es) (row ∷ front) rows (inl h) = inl (h.0, fewer es front rows h.1)
    fewer (e ∷ es) (row ∷ front) rows (inr h) = inr (fewer (e ∷ es) front rows h)

pub entries_are_of_rows : KeepsRows → EntriesAreOfRows
entries_are_of_rows law scene es is =
    unstyled scene.styles es scene.rows (subst (AreOf es) (law (styled_rows scene.styles scene.rows)) (map_gets scene (rows_of scene) es is))

-- ---- how many there are

-- whichever stands first
turned_by : (m n : ℕ) (a b : Bool) → (m == n) ≡ a → (n == m) ≡ b → a ≡ b
turned_by m n true true p q = refl
turned_by m n false false p q = refl
turned_by m n true false p q = absurd (true≢false (sym (eq-eqb n m (sym (eqb-true m n p))) ∙ q))
turned_by m n false true p q = absurd (true≢false (sym (eq-eqb m n (sym (eqb-true n m q))) ∙ p))

turned : (m n : ℕ) → (m == n) ≡ (n == m)
turned m n = turned_by m n (m == n) (n == m) refl refl

counted : (n : ℕ) (e : Entry) (row : Row) (c k : ℕ) → e.node ≡ row.node → c ≤ k → cond (is_of n e) 1 0 + c ≤ cond (has_number n row) 1 0 + k
counted n e row c k same h =
    let one : is_of n e ≡ has_number n row = turned n e.node.0 ∙ ap (λ (node : NodeId). node.0 == n) same in
    rw one (omega (arith, h))

few : (n : ℕ) (es : List Entry) (rows : List Row) → AreOfRows es rows → entry_count n es ≤ count_of n rows
few n [] rows h = omega arith
few n (e ∷ es) [] h = absurd h
few n (e ∷ es) (row ∷ rows) (inl h) = counted n e row (entry_count n es) (count_of n rows) h.0 (few n es rows h.1)
few n (e ∷ es) (row ∷ rows) (inr h) = let less : entry_count n (e ∷ es) ≤ count_of n rows = few n (e ∷ es) rows h in omega (arith, less)

-- ---- looking up

-- each entry is found by its node
abbrev FindsItself : List Entry → Entry → Type 0
FindsItself es e = entry_of e.node.0 es ≡ Some e

abbrev IsOther : ℕ → Entry → Type 0
IsOther n e = is_of n e ≡ false

none_by : (n c : ℕ) (e : Entry) (es : List Entry) → (c ≤ 0 → All (IsOther n) es) → (b : Bool) → is_of n e ≡ b → cond b 1 0 + c ≤ 0 → All (IsOther n) (e ∷ es)
none_by n c e es rest true is h = absurd (omega (arith, h))
none_by n c e es rest false is h = All-cons (IsOther n) e es is (rest (omega (arith, h)))

none_in : (n : ℕ) (es : List Entry) → entry_count n es ≤ 0 → All (IsOther n) es
none_in n [] h = All-nil (IsOther n)
none_in n (e ∷ es) h = none_by n (entry_count n es) e es (none_in n es) (is_of n e) refl h

found_past : (e x : Entry) (whole : List Entry) → IsOther e.node.0 x → FindsItself whole x → FindsItself (e ∷ whole) x
found_past e x whole other found = rw (turned x.node.0 e.node.0 ∙ other) found

all_past : (e : Entry) (whole es : List Entry) → All (IsOther e.node.0) es → All (FindsItself whole) es → All (FindsItself (e ∷ whole)) es
all_past e whole [] others found = All-nil (FindsItself (e ∷ whole))
all_past e whole (x ∷ es) others found =
    All-cons (FindsItself (e ∷ whole)) x es (found_past e x whole (All-head (IsOther e.node.0) x es others) (All-head (FindsItself whole) x es found))
    (all_past e whole es (All-tail (IsOther e.node.0) x es others) (All-tail (FindsItself whole) x es found))

first_found : (e : Entry) (es : List Entry) → FindsItself (e ∷ es) e
first_found e es = rw (eq-eqb e.node.0 e.node.0 refl) refl

itself : (es : List Entry) → ((n : ℕ) → entry_count n es ≤ 1) → All (FindsItself es) es
itself [] once = All-nil (FindsItself [])
itself (e ∷ es) once =
    let whole : cond (is_of e.node.0 e) 1 0 + entry_count e.node.0 es ≤ 1 = once e.node.0 in
    let one : 1 + entry_count e.node.0 es ≤ 1 = rw (eq-eqb e.node.0 e.node.0 refl) at whole in
    let none : entry_count e.node.0 es ≤ 0 = omega (arith, one) in
    let rest : (n : ℕ) → entry_count n es ≤ 1 = λ n. let c : entry_count n (e ∷ es) ≤ 1 = once n in omega (arith, c) in
    All-cons (FindsItself (e ∷ es)) e es (first_found e es) (all_past e es es (none_in e.node.0 es none) (itself es rest))

pub nodes_have_one_entry : KeepsRows → NodesHaveOneEntry
nodes_have_one_entry law scene es differ is =
    let of_rows : AreOfRows es scene.rows = entries_are_of_rows law scene es is in
    let once : (n : ℕ) → entry_count n es ≤ 1 = λ n. let c : entry_count n es ≤ count_of n scene.rows = few n es scene.rows of_rows in let d = differ n in omega (arith, c, d) in
    record { once = once; itself = itself es once }
