-- Sizes of ordinary items: multiples of 1/100,000 on the way, and of 1/1,000 in a sheet.
use Rattle.std.proofs.Common.{◌≡◌, ℕ, ◌+◌, ◌*◌, ◌^◌, ◌<◌, ◌≤◌, List, [], ◌∷◌, length, refl, arith, pos, Bool, true, false, Option, Some, None}
use Rattle.std.specs.Prelude.{if◌then◌else◌, IfSome, All}
use Rattle.std.specs.Option.{option_and_then, option_map}
use Rattle.std.specs.List.{AllByRecursion as Every, zip}
use Rattle.std.proofs.lemmas.List.Elements.{All-head, All-tail}
use Rattle.tx_frac.specs.Ratio.{Ratio, floor_of, mul, div, less}
use Rattle.tx_frac.specs.declared.scalars.Scalar.{Scalar}
use Rattle.tx_frac.specs.declared.scalars.Unit.{Unit as SizeUnit}
use Rattle.tx_frac.specs.declared.scalars.Unit.TheVariants.{Cells, Percent, W, H, Vw, Vh, Fr, Auto}
use Rattle.tx_geom.specs.declared.places.Size.{Size}
use Rattle.tx_geom.specs.declared.choices.Axis.{Axis}
use Rattle.tx_geom.specs.declared.choices.Axis.TheVariants.{Width, Height}
use Rattle.tx_geom.specs.declared.choices.BoxSizing.{BoxSizing}
use Rattle.tx_geom.specs.declared.choices.BoxSizing.TheVariants.{BorderBox, ContentBox}
use Rattle.tx_box.specs.declared.items.Item.{Item}
use Rattle.tx_box.specs.declared.items.Basis.{Basis}
use Rattle.tx_box.specs.declared.sizes.Bases.{Bases}
use Rattle.tx_box.specs.declared.parts.Limits.{Limits}
use Rattle.tx_box.specs.declared.parts.Part.{Part}
use Rattle.tx_box.specs.declared.parts.Part.TheVariants.{Settled, Growing}
use Rattle.tx_geom.specs.Along.{side}
use Rattle.tx_box.specs.Sizes.{cells, hundredths, amount_in, with_gutter, outer_in, outer, limit, limits_of, at_most, at_least, clamp, across_in, across}
use Rattle.tx_box.specs.Axis.{each, bases, part_in, part_of}
use Rattle.tx_box.specs.Ordinary.{IsShortDecimal, IsOrdinarySize, IsOrdinaryItem, OrdinaryBox}
use Rattle.tx_box.proofs.Multiples.{Facts, IsOver, over_more, over_wider, over_cells, Defined, add_defined, less_defined, mul_defined, div_defined}

pub and_then_is : {A B : Type 0} (f : A → Option B) (o : Option A) (x : A) (y : B) → o ≡ Some x → f x ≡ Some y → option_and_then f o ≡ Some y
and_then_is f o x y e h = rw e h

pub map_is : {A B : Type 0} (f : A → B) (o : Option A) (x : A) → o ≡ Some x → option_map f o ≡ Some (f x)
map_is f o x e = rw e refl

-- ---- bounds: of an amount over 100,000, and of any number that is compared

abbrev pub amount_top : ℕ
amount_top = 10 ^ 19

abbrev pub compared_top : ℕ
compared_top = 10 ^ 38

abbrev pub cells_top : ℕ
cells_top = 65535 * 100000

decimal_over : (x : Ratio) → IsShortDecimal x → IsOver 1000 (10 ^ 12) x
decimal_over x d = record { number = d.thousandths; is = d.value; at_most = let p = d.digits in omega arith }

-- ---- amounts

pub side_small : (a : Axis) (s : Size) → IsOrdinarySize s → side a s ≤ 2 ^ 23
side_small Width s h = h.width
side_small Height s h = h.height

hundredths_defined : Facts → (x : Ratio) (base : ℕ) → IsOver 1000 (10 ^ 12) x → base ≤ 2 ^ 23 → Defined 100000 (10 ^ 12 * 2 ^ 23) (λ z. hundredths x base ≡ Some z)
hundredths_defined f x base o h =
    let p = mul_defined f 1000 1 (10 ^ 12) (2 ^ 23 * 1) x (cells base) (omega arith) (omega arith) (omega arith) (omega arith) o (over_cells f 1 base (2 ^ 23) h) in
    let q = div_defined f 1000 1 100 (10 ^ 12 * 2 ^ 23) p.value (cells 100) (omega arith) (omega arith) (omega arith) (omega arith) (omega arith) p.over (f.known.forms.whole (pos 100) 1) in
    record { value = q.value; is = and_then_is (λ p. div p (cells 100)) (mul x (cells base)) p.value q.value p.is q.is; over = q.over }

-- ordinary bases
pub record AreBases (b : Bases) : Type 0 where
  pub own : IsOrdinarySize b.own
  pub screen : IsOrdinarySize b.screen

plain_amount : Facts → (x : Ratio) → IsOver 1000 (10 ^ 12) x → IsOver 100000 (10 ^ 12 * 2 ^ 23) x
plain_amount f x o = over_more 100000 (10 ^ 12 * 100) (10 ^ 12 * 2 ^ 23) x (omega arith) (over_wider f 1000 100 (10 ^ 12) x o)

amount_defined : Facts → (u : SizeUnit) (x : Ratio) (b : Bases) → AreBases b → IsOver 1000 (10 ^ 12) x → Defined 100000 (10 ^ 12 * 2 ^ 23) (λ z. amount_in u x b ≡ Some z)
amount_defined f Cells x b h o = record { value = x; is = refl; over = plain_amount f x o }
amount_defined f Percent x b h o = hundredths_defined f x (side b.axis b.own) o (side_small b.axis b.own h.own)
amount_defined f W x b h o = hundredths_defined f x b.own.width o h.own.width
amount_defined f H x b h o = hundredths_defined f x b.own.height o h.own.height
amount_defined f Vw x b h o = hundredths_defined f x b.screen.width o h.screen.width
amount_defined f Vh x b h o = hundredths_defined f x b.screen.height o h.screen.height
amount_defined f Fr x b h o = record { value = x; is = refl; over = plain_amount f x o }
amount_defined f Auto x b h o = record { value = x; is = refl; over = plain_amount f x o }

gutter_defined : Facts → (s : BoxSizing) (g : ℕ) (x : Ratio) → g < 2 ^ 32 → IsOver 100000 (10 ^ 12 * 2 ^ 23) x → Defined 100000 amount_top (λ z. with_gutter s g x ≡ Some z)
gutter_defined f BorderBox g x h o = record { value = x; is = refl; over = over_more 100000 (10 ^ 12 * 2 ^ 23) amount_top x (omega arith) o }
gutter_defined f ContentBox g x h o =
    let p = add_defined f 100000 (10 ^ 12 * 2 ^ 23) (2 ^ 32 * 100000) x (cells g) (omega arith) (omega arith) (omega arith) o (over_cells f 100000 g (2 ^ 32) (omega arith)) in
    record { value = p.value; is = p.is; over = over_more 100000 (10 ^ 12 * 2 ^ 23 + 2 ^ 32 * 100000) amount_top p.value (omega arith) p.over }

outer_by_defined : Facts → (u : SizeUnit) (x : Ratio) (i : Item) (b : Bases) → AreBases b → i.gutter < 2 ^ 32 → IsOver 1000 (10 ^ 12) x
    → Defined 100000 amount_top (λ z. option_and_then (with_gutter i.sizing i.gutter) (amount_in u x b) ≡ Some z)
outer_by_defined f u x i b h g o =
    let p = amount_defined f u x b h o in
    let q = gutter_defined f i.sizing i.gutter p.value g p.over in
    record { value = q.value; is = and_then_is (with_gutter i.sizing i.gutter) (amount_in u x b) p.value q.value p.is q.is; over = q.over }

outer_defined : Facts → (u : SizeUnit) (x : Ratio) (i : Item) (b : Bases) → AreBases b → i.gutter < 2 ^ 32 → i.auto < 2 ^ 32 → IsOver 1000 (10 ^ 12) x
    → Defined 100000 amount_top (λ z. outer_in u x i b ≡ Some z)
outer_defined f Auto x i b h g a o =
    record { value = cells (i.auto + i.gutter); is = refl; over = over_more 100000 (2 ^ 33 * 100000) amount_top (cells (i.auto + i.gutter)) (omega arith) (over_cells f 100000 (i.auto + i.gutter) (2 ^ 33) (omega arith)) }
outer_defined f Fr x i b h g a o = record { value = x; is = refl; over = over_more 100000 (10 ^ 12 * 2 ^ 23) amount_top x (omega arith) (plain_amount f x o) }
outer_defined f Cells x i b h g a o = outer_by_defined f Cells x i b h g o
outer_defined f Percent x i b h g a o = outer_by_defined f Percent x i b h g o
outer_defined f W x i b h g a o = outer_by_defined f W x i b h g o
outer_defined f H x i b h g a o = outer_by_defined f H x i b h g o
outer_defined f Vw x i b h g a o = outer_by_defined f Vw x i b h g o
outer_defined f Vh x i b h g a o = outer_by_defined f Vh x i b h g o

pub size_defined : Facts → (i : Item) (b : Bases) → AreBases b → IsOrdinaryItem i → Defined 100000 amount_top (λ z. outer i.size i b ≡ Some z)
size_defined f i b h o = outer_defined f i.size.unit i.size.value i b h o.gutter o.auto (decimal_over i.size.value o.size)

-- ---- limits

abbrev pub IsOverLimit : Option Ratio → Type 0
IsOverLimit o = IfSome o (IsOver 100000 amount_top)

pub record AreOver (l : Limits) : Type 0 where
  pub least : IsOverLimit l.least
  pub most : IsOverLimit l.most

record LimitDefined (answer : Option Ratio → Type 0) : Type 0 where
  value : Option Ratio
  is : answer value
  over : IsOverLimit value

limit_defined : Facts → (s : Option Scalar) (i : Item) (b : Bases) → AreBases b → i.gutter < 2 ^ 32 → i.auto < 2 ^ 32 → IfSome s (λ s. IsShortDecimal s.value)
    → LimitDefined (λ r. limit s i b ≡ Some r)
limit_defined f None i b h g a o = record { value = None; is = refl; over = tt }
limit_defined f (Some s) i b h g a o =
    let p = outer_defined f s.unit s.value i b h g a (decimal_over s.value o) in
    record { value = Some p.value; is = map_is Some (outer s i b) p.value p.is; over = p.over }

pub record LimitsDefined (answer : Limits → Type 0) : Type 0 where
  pub value : Limits
  pub is : answer value
  pub over : AreOver value

abbrev limits : Option Ratio → Option Ratio → Limits
limits least most = record { least = least; most = most }

pub limits_defined : Facts → (i : Item) (b : Bases) → AreBases b → IsOrdinaryItem i → LimitsDefined (λ l. limits_of i b ≡ Some l)
limits_defined f i b h o =
    let p = limit_defined f i.least i b h o.gutter o.auto o.least in
    let q = limit_defined f i.most i b h o.gutter o.auto o.most in
    record {
      value = limits p.value q.value;
      is = and_then_is (λ least. option_map (λ most. limits least most) (limit i.most i b)) (limit i.least i b) p.value (limits p.value q.value) p.is (map_is (λ most. limits p.value most) (limit i.most i b) q.value q.is);
      over = record { least = p.over; most = q.over };
    }

-- ---- a size within its limits

picked : (k c : ℕ) (t : Bool) (x y : Ratio) → IsOver k c x → IsOver k c y → IsOver k c (if t then x else y)
picked k c true x y o p = o
picked k c false x y o p = p

picked_lower : (k n c : ℕ) (t : Bool) (x y : Ratio) → IsOver k n x → (o : IsOver k c y) → (t ≡ false → o.number ≤ n) → IsOver k n (if t then x else y)
picked_lower k n c true x y p o q = p
picked_lower k n c false x y p o q = record { number = o.number; is = o.is; at_most = q refl }

at_most_defined : Facts → (k c : ℕ) (o : Option Ratio) (x : Ratio) → 0 < k → c < 2 ^ 127 → IfSome o (IsOver k c) → IsOver k c x → Defined k c (λ z. at_most o x ≡ Some z)
at_most_defined f k c None x hk small h o = record { value = x; is = refl; over = o }
at_most_defined f k c (Some m) x hk small h o =
    let t = less_defined f k c c m x hk small small h o in
    record { value = if t.value then m else x; is = map_is (λ b. if b then m else x) (less m x) t.value t.is; over = picked k c t.value m x h o }

at_least_defined : Facts → (k c : ℕ) (o : Option Ratio) (x : Ratio) → 0 < k → c < 2 ^ 127 → IfSome o (IsOver k c) → IsOver k c x → Defined k c (λ z. at_least o x ≡ Some z)
at_least_defined f k c None x hk small h o = record { value = x; is = refl; over = o }
at_least_defined f k c (Some m) x hk small h o =
    let t = less_defined f k c c x m hk small small o h in
    record { value = if t.value then m else x; is = map_is (λ b. if b then m else x) (less x m) t.value t.is; over = picked k c t.value m x h o }

greatest_defined : Facts → (k c : ℕ) (x : Ratio) → 0 < k → 65535 * k ≤ c → c < 2 ^ 127 → IsOver k c x → Defined k (65535 * k) (λ z. at_most (Some (cells 65535)) x ≡ Some z)
greatest_defined f k c x hk low small o =
    let top : IsOver k (65535 * k) (cells 65535) = over_cells f k 65535 65535 (omega arith) in
    let t = less_defined f k (65535 * k) c (cells 65535) x hk (omega arith) small top o in
    record {
      value = if t.value then cells 65535 else x;
      is = map_is (λ b. if b then cells 65535 else x) (less (cells 65535) x) t.value t.is;
      over = picked_lower k (65535 * k) c t.value (cells 65535) x top o (λ e. let h = t.not_less e in let g = top.at_most in omega arith);
    }

limit_wider : Facts → (j : ℕ) (o : Option Ratio) → j ≤ 10 ^ 17 → IsOverLimit o → IfSome o (IsOver (100000 * j) compared_top)
limit_wider f j None h o = tt
limit_wider f j (Some m) h o = over_more (100000 * j) (amount_top * j) compared_top m (omega arith) (over_wider f 100000 j amount_top m o)

pub clamp_defined : Facts → (j : ℕ) (l : Limits) (x : Ratio) → 0 < j → j ≤ 10 ^ 17 → AreOver l → IsOver (100000 * j) compared_top x
    → Defined (100000 * j) (65535 * (100000 * j)) (λ z. clamp l x ≡ Some z)
unfolding clamp
clamp_defined f j l x hj small h o =
    let k = 100000 * j in
    let hk : 0 < 100000 * j = omega arith in
    let p = at_most_defined f (100000 * j) compared_top l.most x hk (omega arith) (limit_wider f j l.most small h.most) o in
    let q = at_least_defined f (100000 * j) compared_top l.least p.value hk (omega arith) (limit_wider f j l.least small h.least) p.over in
    let r = greatest_defined f (100000 * j) compared_top q.value hk (omega arith) (omega arith) q.over in
    record {
      value = r.value;
      is =
          and_then_is (at_most (Some (cells 65535))) (option_and_then (at_least l.least) (at_most l.most x)) q.value r.value
          (and_then_is (at_least l.least) (at_most l.most x) p.value q.value p.is q.is) r.is;
      over = r.over;
    }

-- the same over 100,000 alone
pub clamp_amount : Facts → (l : Limits) (x : Ratio) → AreOver l → IsOver 100000 amount_top x → Defined 100000 cells_top (λ z. clamp l x ≡ Some z)
clamp_amount f l x h o = clamp_defined f 1 l x (omega arith) (omega arith) h (over_more 100000 amount_top compared_top x (omega arith) o)

-- ---- one box

across_in_defined : Facts → (u : SizeUnit) (i : Item) (b : Bases) → AreBases b → IsOrdinaryItem i → Defined 100000 amount_top (λ z. across_in u i b ≡ Some z)
across_in_defined f Fr i b h o =
    record {
      value = cells (side b.axis b.own);
      is = refl;
      over = over_more 100000 (2 ^ 23 * 100000) amount_top (cells (side b.axis b.own)) (omega arith) (over_cells f 100000 (side b.axis b.own) (2 ^ 23) (side_small b.axis b.own h.own));
    }
across_in_defined f Auto i b h o = size_defined f i b h o
across_in_defined f Cells i b h o = size_defined f i b h o
across_in_defined f Percent i b h o = size_defined f i b h o
across_in_defined f W i b h o = size_defined f i b h o
across_in_defined f H i b h o = size_defined f i b h o
across_in_defined f Vw i b h o = size_defined f i b h o
across_in_defined f Vh i b h o = size_defined f i b h o

pub across_defined : Facts → (i : Item) (b : Bases) → AreBases b → IsOrdinaryItem i → Defined 100000 cells_top (λ z. across i b ≡ Some z)
unfolding across
across_defined f i b h o =
    let l = limits_defined f i b h o in
    let x = across_in_defined f i.size.unit i b h o in
    let c = clamp_amount f l.value x.value l.over x.over in
    record {
      value = c.value;
      is =
          and_then_is (λ l. option_and_then (clamp l) (across_in i.size.unit i b)) (limits_of i b) l.value c.value l.is
          (and_then_is (clamp l.value) (across_in i.size.unit i b) x.value c.value x.is c.is);
      over = c.over;
    }

pub ordinary_box : Facts → OrdinaryBox
ordinary_box f item axis basis own i screen base =
    let c = across_defined f item (bases axis basis own) (record { own = base; screen = screen }) i in
    rw (map_is floor_of (across item (bases axis basis own)) c.value c.is) refl

-- ---- parts

abbrev pub IsOverPart : Part → Type 0
IsOverPart (Settled c) = IsOver 100000 cells_top c
IsOverPart (Growing s l) = IsOver 1000 (10 ^ 12) s × AreOver l

record PartDefined (answer : Part → Type 0) : Type 0 where
  value : Part
  is : answer value
  over : IsOverPart value

settled_defined : Facts → (i : Item) (b : Bases) (l : Limits) → AreBases b → IsOrdinaryItem i → AreOver l → PartDefined (λ p. option_map Settled (option_and_then (clamp l) (outer i.size i b)) ≡ Some p)
settled_defined f i b l h o limits =
    let x = size_defined f i b h o in
    let c = clamp_amount f l x.value limits x.over in
    record {
      value = Settled c.value;
      is = map_is Settled (option_and_then (clamp l) (outer i.size i b)) c.value (and_then_is (clamp l) (outer i.size i b) x.value c.value x.is c.is);
      over = c.over;
    }

part_in_defined : Facts → (u : SizeUnit) (i : Item) (b : Bases) (l : Limits) → AreBases b → IsOrdinaryItem i → AreOver l → PartDefined (λ p. part_in u i b l ≡ Some p)
part_in_defined f Fr i b l h o limits = record { value = Growing i.size.value l; is = refl; over = (decimal_over i.size.value o.size, limits) }
part_in_defined f Auto i b l h o limits = settled_defined f i b l h o limits
part_in_defined f Cells i b l h o limits = settled_defined f i b l h o limits
part_in_defined f Percent i b l h o limits = settled_defined f i b l h o limits
part_in_defined f W i b l h o limits = settled_defined f i b l h o limits
part_in_defined f H i b l h o limits = settled_defined f i b l h o limits
part_in_defined f Vw i b l h o limits = settled_defined f i b l h o limits
part_in_defined f Vh i b l h o limits = settled_defined f i b l h o limits

part_defined : Facts → (i : Item) (b : Bases) → AreBases b → IsOrdinaryItem i → PartDefined (λ p. part_of i b ≡ Some p)
unfolding part_of
part_defined f i b h o =
    let l = limits_defined f i b h o in
    let p = part_in_defined f i.size.unit i b l.value h o l.over in
    record { value = p.value; is = and_then_is (part_in i.size.unit i b) (limits_of i b) l.value p.value l.is p.is; over = p.over }

pub record PartsDefined (n : ℕ) (answer : List Part → Type 0) : Type 0 where
  pub value : List Part
  pub is : answer value
  pub over : Every IsOverPart value
  pub count : length value ≤ n

abbrev pub part_at : Axis → Basis → Item × Size → Option Part
part_at axis basis x = part_of x.0 (bases axis basis x.1)

pub parts_defined : Facts → (axis : Axis) (basis : Basis) (items : List Item) (own : List Size) → IsOrdinarySize basis.screen → All IsOrdinaryItem items → All IsOrdinarySize own
    → PartsDefined (length items) (λ ps. each (part_at axis basis) (zip items own) ≡ Some ps)
parts_defined f axis basis [] own screen o h = record { value = []; is = refl; over = tt; count = omega arith }
parts_defined f axis basis (item ∷ items) [] screen o h = record { value = []; is = refl; over = tt; count = omega arith }
parts_defined f axis basis (item ∷ items) (base ∷ own) screen o h =
    let p = part_defined f item (bases axis basis base) (record { own = All-head IsOrdinarySize base own h; screen = screen }) (All-head IsOrdinaryItem item items o) in
    let rest = parts_defined f axis basis items own screen (All-tail IsOrdinaryItem item items o) (All-tail IsOrdinarySize base own h) in
    let low = rest.count in
    record {
      value = p.value ∷ rest.value;
      is =
          and_then_is (λ y. option_map (λ ys. y ∷ ys) (each (part_at axis basis) (zip items own))) (part_of item (bases axis basis base)) p.value (p.value ∷ rest.value) p.is
          (map_is (λ ys. p.value ∷ ys) (each (part_at axis basis) (zip items own)) rest.value rest.is);
      over = (p.over, rest.over);
      count = omega arith;
    }
