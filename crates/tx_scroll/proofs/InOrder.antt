-- What comes of one trial, and of trials one after another.
use Rattle.std.proofs.Common.{◌≡◌, ◌⊎◌, inl, inr, ℕ, suc, ◌≤◌, ◌==◌, ◌&&◌, Bool, true, false, refl, ap, sym, ◌∙◌, subst, List, [], ◌∷◌, Result, Ok, Err, length, arith, if◌then◌else◌}
use Rattle.std.specs.Prelude.{◌↔◌}
use Rattle.std.proofs.lemmas.Bool.{and_parts, eq-eqb, eqb-true, false≢true}
use Rattle.tx_read.specs.Reading.{◌>>=◌}
use Rattle.tx_geom.specs.declared.choices.Axis.{Axis}
use Rattle.tx_geom.specs.declared.choices.Overflow.{Overflow}
use Rattle.tx_geom.specs.declared.choices.Overflow.TheVariants.{Auto, Hidden, Scroll}
use Rattle.tx_geom.specs.declared.places.Size.{Size}
use Rattle.tx_layout.specs.declared.styles.Arrangement.{Arrangement}
use Rattle.tx_scroll.specs.declared.trials.Trial.{Trial}
use Rattle.tx_scroll.specs.declared.trials.Barred.{Barred}
use Rattle.tx_scroll.specs.Bars.{no_bar, vertical_bar, horizontal_bar, both_bars, allows, is_allowed, viewport, fits_along, fits, with_bars, outcome, ends_by, ends, up_to, last_of, made_of, tried_in_order, made, barred_by}
use Rattle.tx_scroll.specs.Laws.{Arranges, Fits, bars_of, IsBeside, HiddenHasNone, ScrollHasOne, BothAuto, IsFew}

-- ---- one trial

-- a trial that was made shows its arrangement
record IsMade (arrange : Arranges) (content : Size) (bars : Trial) (b : Barred) : Type 0 where
  arrangement : Arrangement
  is : arrange (viewport content bars) ≡ Ok arrangement
  shown : b ≡ with_bars content bars arrangement

made_if : (content : Size) (bars : Trial) (b : Barred) (r : Result Arrangement Axis) → (r >>= (λ a. Ok (with_bars content bars a))) ≡ Ok b
    → (a : Arrangement) × (r ≡ Ok a) × (b ≡ with_bars content bars a)
made_if content bars b (Ok a) is = (a, refl, cc)
made_if content bars b (Err axis) is = cc

made_by : (arrange : Arranges) (content : Size) (bars : Trial) (b : Barred) → outcome arrange content bars ≡ Ok b → IsMade arrange content bars b
made_by arrange content bars b is =
    let m = made_if content bars b (arrange (viewport content bars)) is in
    record { arrangement = m.0; is = m.1; shown = m.2 }

-- ---- what fits

fits_tells : (o : Overflow) (bar : Bool) (over : ℕ) → fits_along o bar over ≡ true → o ≡ Auto → bar ≡ false → over ≡ 0
fits_tells Auto true over fine auto none = cc
fits_tells Auto false over fine auto none = eqb-true over 0 fine
fits_tells Hidden bar over fine auto none = cc
fits_tells Scroll bar over fine auto none = cc

fits_said : (o : Overflow) (bar : Bool) (over : ℕ) → (o ≡ Auto → bar ≡ false → over ≡ 0) → fits_along o bar over ≡ true
fits_said Auto true over none = refl
fits_said Auto false over none = eq-eqb over 0 (none refl refl)
fits_said Hidden bar over none = refl
fits_said Scroll bar over none = refl

-- a trial that ends the search and isn't refused fits
fits_end : (arrange : Arranges) (x y : Overflow) (content : Size) (bars : Trial) (a : Arrangement) → arrange (viewport content bars) ≡ Ok a → ends arrange x y content bars ≡ true
    → Fits arrange x y content bars
fits_end arrange x y content bars a is end =
    let e : fits x y bars a.over ≡ true = ap (ends_by x y bars) (sym is) ∙ end in
    let parts = and_parts (fits_along x bars.across a.over.width) (fits_along y bars.down a.over.height) e in
    record {
      arrangement = a;
      is = is;
      across = fits_tells x bars.across a.over.width parts.0;
      down = fits_tells y bars.down a.over.height parts.1;
    }

-- one that fits ends it
end_fits : (arrange : Arranges) (x y : Overflow) (content : Size) (bars : Trial) → Fits arrange x y content bars → ends arrange x y content bars ≡ true
end_fits arrange x y content bars f =
    ap (ends_by x y bars) f.is
    ∙ both_true _ _ (fits_said x bars.across f.arrangement.over.width f.across) (fits_said y bars.down f.arrangement.over.height f.down)
  where
    both_true : (a b : Bool) → a ≡ true → b ≡ true → (a && b) ≡ true
    both_true a b p q = cc

-- what was made fits where nothing goes over
fits_made : (arrange : Arranges) (x y : Overflow) (content : Size) (bars : Trial) (b : Barred) → (m : IsMade arrange content bars b) → fits x y bars m.arrangement.over ≡ true
    → Fits arrange x y content bars
fits_made arrange x y content bars b m fine =
    let parts = and_parts (fits_along x bars.across m.arrangement.over.width) (fits_along y bars.down m.arrangement.over.height) fine in
    record {
      arrangement = m.arrangement;
      is = m.is;
      across = fits_tells x bars.across m.arrangement.over.width parts.0;
      down = fits_tells y bars.down m.arrangement.over.height parts.1;
    }

-- ---- one after another

-- the first of two, or the second
data Second (arrange : Arranges) (content : Size) (b : Barred) (t1 t2 : Trial) (e1 : Bool) : Type 0 where
  first : e1 ≡ true → IsMade arrange content t1 b → Second arrange content b t1 t2 e1
  second : e1 ≡ false → IsMade arrange content t2 b → Second arrange content b t1 t2 e1

of_one : (arrange : Arranges) (content : Size) (b : Barred) (t : Trial) (e : Bool) → outcome arrange content (last_of t (if e then [] else [])) ≡ Ok b → IsMade arrange content t b
of_one arrange content b t true is = made_by arrange content t b is
of_one arrange content b t false is = made_by arrange content t b is

of_two : (arrange : Arranges) (content : Size) (b : Barred) (t1 t2 : Trial) (e1 e2 : Bool)
    → outcome arrange content (last_of t1 (if e1 then [] else (t2 ∷ (if e2 then [] else [])))) ≡ Ok b → Second arrange content b t1 t2 e1
of_two arrange content b t1 t2 true e2 is = first refl (made_by arrange content t1 b is)
of_two arrange content b t1 t2 false e2 is = second refl (of_one arrange content b t2 e2 is)

-- one of four
data Fourth (arrange : Arranges) (content : Size) (b : Barred) (e1 e2 e3 : Bool) : Type 0 where
  none : e1 ≡ true → IsMade arrange content no_bar b → Fourth arrange content b e1 e2 e3
  vertical : e1 ≡ false → e2 ≡ true → IsMade arrange content vertical_bar b → Fourth arrange content b e1 e2 e3
  horizontal : e1 ≡ false → e2 ≡ false → e3 ≡ true → IsMade arrange content horizontal_bar b → Fourth arrange content b e1 e2 e3
  both : e1 ≡ false → e2 ≡ false → e3 ≡ false → IsMade arrange content both_bars b → Fourth arrange content b e1 e2 e3

of_four : (arrange : Arranges) (content : Size) (b : Barred) (e1 e2 e3 e4 : Bool)
    → outcome arrange content
    (last_of no_bar (if e1 then [] else (vertical_bar ∷ (if e2 then [] else (horizontal_bar ∷ (if e3 then [] else (both_bars ∷ (if e4 then [] else []))))))))
    ≡ Ok b
    → Fourth arrange content b e1 e2 e3
of_four arrange content b true e2 e3 e4 is = none refl (made_by arrange content no_bar b is)
of_four arrange content b false true e3 e4 is = vertical refl refl (made_by arrange content vertical_bar b is)
of_four arrange content b false false true e4 is = horizontal refl refl refl (made_by arrange content horizontal_bar b is)
of_four arrange content b false false false e4 is = both refl refl refl (of_one arrange content b both_bars e4 is)

-- ---- the trial that counts

-- it has bars that the overflows allow, and it fits
record IsTaken (arrange : Arranges) (x y : Overflow) (content : Size) (b : Barred) : Type 0 where
  bars : Trial
  made : IsMade arrange content bars b
  allowed : is_allowed x y bars ≡ true
  fit : Fits arrange x y content bars

-- it ends the search
taken_end : (arrange : Arranges) (x y : Overflow) (content : Size) (bars : Trial) (b : Barred) → IsMade arrange content bars b → is_allowed x y bars ≡ true
    → ends arrange x y content bars ≡ true → IsTaken arrange x y content b
taken_end arrange x y content bars b m allowed end =
    record { bars = bars; made = m; allowed = allowed; fit = fits_end arrange x y content bars m.arrangement m.is end }

-- each auto axis has a bar
taken_last : (arrange : Arranges) (x y : Overflow) (content : Size) (bars : Trial) (b : Barred) → (m : IsMade arrange content bars b) → is_allowed x y bars ≡ true
    → fits x y bars m.arrangement.over ≡ true → IsTaken arrange x y content b
taken_last arrange x y content bars b m allowed fine =
    record { bars = bars; made = m; allowed = allowed; fit = fits_made arrange x y content bars b m fine }

taken_four : (arrange : Arranges) (content : Size) (b : Barred) (e1 e2 e3 : Bool) → e1 ≡ ends arrange Auto Auto content no_bar → e2 ≡ ends arrange Auto Auto content vertical_bar
    → e3 ≡ ends arrange Auto Auto content horizontal_bar → Fourth arrange content b e1 e2 e3 → IsTaken arrange Auto Auto content b
taken_four arrange content b e1 e2 e3 i1 i2 i3 (none p m) = taken_end arrange Auto Auto content no_bar b m refl (sym i1 ∙ p)
taken_four arrange content b e1 e2 e3 i1 i2 i3 (vertical p q m) = taken_end arrange Auto Auto content vertical_bar b m refl (sym i2 ∙ q)
taken_four arrange content b e1 e2 e3 i1 i2 i3 (horizontal p q r m) = taken_end arrange Auto Auto content horizontal_bar b m refl (sym i3 ∙ r)
taken_four arrange content b e1 e2 e3 i1 i2 i3 (both p q r m) = taken_last arrange Auto Auto content both_bars b m refl refl

taken_two : (arrange : Arranges) (x y : Overflow) (content : Size) (b : Barred) (t1 t2 : Trial) → is_allowed x y t1 ≡ true → is_allowed x y t2 ≡ true
    → ((over : Size) → fits x y t2 over ≡ true) → Second arrange content b t1 t2 (ends arrange x y content t1) → IsTaken arrange x y content b
taken_two arrange x y content b t1 t2 a1 a2 fine (first p m) = taken_end arrange x y content t1 b m a1 p
taken_two arrange x y content b t1 t2 a1 a2 fine (second p m) = taken_last arrange x y content t2 b m a2 (fine m.arrangement.over)

four_by : (arrange : Arranges) (content : Size) (b : Barred) → barred_by arrange Auto Auto content ≡ Ok b
    → Fourth arrange content b (ends arrange Auto Auto content no_bar) (ends arrange Auto Auto content vertical_bar) (ends arrange Auto Auto content horizontal_bar)
four_by arrange content b is = of_four arrange content b _ _ _ (ends arrange Auto Auto content both_bars) is

two_by : (arrange : Arranges) (x y : Overflow) (content : Size) (b : Barred) (t1 t2 : Trial)
    → outcome arrange content (last_of no_bar (up_to (ends arrange x y content) (t1 ∷ (t2 ∷ [])))) ≡ Ok b → Second arrange content b t1 t2 (ends arrange x y content t1)
two_by arrange x y content b t1 t2 is = of_two arrange content b t1 t2 _ (ends arrange x y content t2) is

one_by : (arrange : Arranges) (x y : Overflow) (content : Size) (b : Barred) (t : Trial)
    → outcome arrange content (last_of no_bar (up_to (ends arrange x y content) (t ∷ []))) ≡ Ok b → IsMade arrange content t b
one_by arrange x y content b t is = of_one arrange content b t (ends arrange x y content t) is

taken : (arrange : Arranges) (x y : Overflow) (content : Size) (b : Barred) → barred_by arrange x y content ≡ Ok b → IsTaken arrange x y content b
taken arrange Auto Auto content b is = taken_four arrange content b _ _ _ refl refl refl (four_by arrange content b is)
taken arrange Auto Hidden content b is = taken_two arrange Auto Hidden content b no_bar horizontal_bar refl refl (λ over. refl) (two_by arrange Auto Hidden content b no_bar horizontal_bar is)
taken arrange Auto Scroll content b is = taken_two arrange Auto Scroll content b vertical_bar both_bars refl refl (λ over. refl) (two_by arrange Auto Scroll content b vertical_bar both_bars is)
taken arrange Hidden Auto content b is = taken_two arrange Hidden Auto content b no_bar vertical_bar refl refl (λ over. refl) (two_by arrange Hidden Auto content b no_bar vertical_bar is)
taken arrange Hidden Hidden content b is = taken_last arrange Hidden Hidden content no_bar b (one_by arrange Hidden Hidden content b no_bar is) refl refl
taken arrange Hidden Scroll content b is = taken_last arrange Hidden Scroll content vertical_bar b (one_by arrange Hidden Scroll content b vertical_bar is) refl refl
taken arrange Scroll Auto content b is = taken_two arrange Scroll Auto content b horizontal_bar both_bars refl refl (λ over. refl) (two_by arrange Scroll Auto content b horizontal_bar both_bars is)
taken arrange Scroll Hidden content b is = taken_last arrange Scroll Hidden content horizontal_bar b (one_by arrange Scroll Hidden content b horizontal_bar is) refl refl
taken arrange Scroll Scroll content b is = taken_last arrange Scroll Scroll content both_bars b (one_by arrange Scroll Scroll content b both_bars is) refl refl

-- ---- laws

pub shows-arrangement : (arrange : Arranges) (x y : Overflow) (content : Size) (b : Barred) → barred_by arrange x y content ≡ Ok b → IsBeside arrange content b
shows-arrangement arrange x y content b is =
    let t = taken arrange x y content b is in
    subst (λ (c : Barred). IsBeside arrange content c) (sym t.made.shown) (record { viewport = refl; arrangement = t.made.is })

allows_tells : (x y : Overflow) (bars : Trial) → is_allowed x y bars ≡ true
    → ((x ≡ Hidden → bars.across ≡ false) × (y ≡ Hidden → bars.down ≡ false)) × ((x ≡ Scroll → bars.across ≡ true) × (y ≡ Scroll → bars.down ≡ true))
allows_tells x y bars allowed =
    let parts = and_parts (allows x bars.across) (allows y bars.down) allowed in
    ((none x bars.across parts.0, none y bars.down parts.1), (one x bars.across parts.0, one y bars.down parts.1))
  where
    none : (o : Overflow) (bar : Bool) → allows o bar ≡ true → o ≡ Hidden → bar ≡ false
    none Auto bar fine is = cc
    none Hidden true fine is = cc
    none Hidden false fine is = refl
    none Scroll bar fine is = cc

    one : (o : Overflow) (bar : Bool) → allows o bar ≡ true → o ≡ Scroll → bar ≡ true
    one Auto bar fine is = cc
    one Hidden bar fine is = cc
    one Scroll bar fine is = fine

pub never-hidden : (arrange : Arranges) (x y : Overflow) (content : Size) (b : Barred) → barred_by arrange x y content ≡ Ok b → HiddenHasNone x y b
never-hidden arrange x y content b is =
    let t = taken arrange x y content b is in
    let said = allows_tells x y t.bars t.allowed in
    subst (λ (c : Barred). HiddenHasNone x y c) (sym t.made.shown) (record { across = said.0.0; down = said.0.1 })

pub always-scroll : (arrange : Arranges) (x y : Overflow) (content : Size) (b : Barred) → barred_by arrange x y content ≡ Ok b → ScrollHasOne x y b
always-scroll arrange x y content b is =
    let t = taken arrange x y content b is in
    let said = allows_tells x y t.bars t.allowed in
    subst (λ (c : Barred). ScrollHasOne x y c) (sym t.made.shown) (record { across = said.1.0; down = said.1.1 })

pub nothing-unreached : (arrange : Arranges) (x y : Overflow) (content : Size) (b : Barred) → barred_by arrange x y content ≡ Ok b → Fits arrange x y content (bars_of b)
nothing-unreached arrange x y content b is =
    let t = taken arrange x y content b is in
    subst (λ (c : Barred). Fits arrange x y content (bars_of c)) (sym t.made.shown) t.fit

-- a trial doesn't fit where it doesn't end the search
unfit : (arrange : Arranges) (x y : Overflow) (content : Size) (bars : Trial) → ends arrange x y content bars ≡ false → ¬ Fits arrange x y content bars
unfit arrange x y content bars no_end f = false≢true (sym no_end ∙ end_fits arrange x y content bars f)

-- the first of two trials is taken exactly where it fits
abbrev WhereFits : Arranges → Overflow → Overflow → Size → Barred → (Barred → Bool) → (Barred → Trial) → Type 0
WhereFits arrange x y content b bar without = (bar b ≡ false) ↔ Fits arrange x y content (without b)

where_fits : (arrange : Arranges) (x y : Overflow) (content : Size) (b : Barred) (t1 t2 : Trial) (bar : Barred → Bool) (without : Barred → Trial)
    → ((a : Arrangement) → bar (with_bars content t1 a) ≡ false) → ((a : Arrangement) → without (with_bars content t1 a) ≡ t1)
    → ((a : Arrangement) → bar (with_bars content t2 a) ≡ true) → ((a : Arrangement) → without (with_bars content t2 a) ≡ t1)
    → Second arrange content b t1 t2 (ends arrange x y content t1) → WhereFits arrange x y content b bar without
where_fits arrange x y content b t1 t2 bar without f1 w1 f2 w2 (first p m) =
    subst (λ (c : Barred). WhereFits arrange x y content c bar without) (sym m.shown)
    (λ _. subst (λ (t : Trial). Fits arrange x y content t) (sym (w1 m.arrangement)) (fits_end arrange x y content t1 m.arrangement m.is p), λ _. f1 m.arrangement)
where_fits arrange x y content b t1 t2 bar without f1 w1 f2 w2 (second p m) =
    subst (λ (c : Barred). WhereFits arrange x y content c bar without) (sym m.shown) (
      λ none. absurd (false≢true (sym none ∙ f2 m.arrangement)),
      λ f. absurd (unfit arrange x y content t1 p (subst (λ (t : Trial). Fits arrange x y content t) (w2 m.arrangement) f)),
    )

pub across-where-needed : (arrange : Arranges) (y : Overflow) (content : Size) (b : Barred) → ¬ (y ≡ Auto) → barred_by arrange Auto y content ≡ Ok b
    → (b.across ≡ false) ↔ Fits arrange Auto y content (record { across = false; down = b.down })
across-where-needed arrange Auto content b other is = absurd (other refl)
across-where-needed arrange Hidden content b other is =
    where_fits arrange Auto Hidden content b no_bar horizontal_bar (λ c. c.across) (λ c. record { across = false; down = c.down }) (λ a. refl) (λ a. refl) (λ a. refl) (λ a. refl)
    (two_by arrange Auto Hidden content b no_bar horizontal_bar is)
across-where-needed arrange Scroll content b other is =
    where_fits arrange Auto Scroll content b vertical_bar both_bars (λ c. c.across) (λ c. record { across = false; down = c.down }) (λ a. refl) (λ a. refl) (λ a. refl) (λ a. refl)
    (two_by arrange Auto Scroll content b vertical_bar both_bars is)

pub down-where-needed : (arrange : Arranges) (x : Overflow) (content : Size) (b : Barred) → ¬ (x ≡ Auto) → barred_by arrange x Auto content ≡ Ok b
    → (b.down ≡ false) ↔ Fits arrange x Auto content (record { across = b.across; down = false })
down-where-needed arrange Auto content b other is = absurd (other refl)
down-where-needed arrange Hidden content b other is =
    where_fits arrange Hidden Auto content b no_bar vertical_bar (λ c. c.down) (λ c. record { across = c.across; down = false }) (λ a. refl) (λ a. refl) (λ a. refl) (λ a. refl)
    (two_by arrange Hidden Auto content b no_bar vertical_bar is)
down-where-needed arrange Scroll content b other is =
    where_fits arrange Scroll Auto content b horizontal_bar both_bars (λ c. c.down) (λ c. record { across = c.across; down = false }) (λ a. refl) (λ a. refl) (λ a. refl) (λ a. refl)
    (two_by arrange Scroll Auto content b horizontal_bar both_bars is)

-- both are auto
vertical_if : (arrange : Arranges) (content : Size) (b : Barred)
    → Fourth arrange content b (ends arrange Auto Auto content no_bar) (ends arrange Auto Auto content vertical_bar) (ends arrange Auto Auto content horizontal_bar)
    → BothAuto arrange content b
vertical_if arrange content b (none p m) =
    let f = fits_end arrange Auto Auto content no_bar m.arrangement m.is p in
    subst (λ (c : Barred). BothAuto arrange content c) (sym m.shown)
    (record {
      none = (λ _. f, λ _. (refl, refl));
      both = (λ h. absurd (false≢true h.0), λ h. absurd (h.0 f));
      horizontal = λ h _. absurd (false≢true h);
    })
vertical_if arrange content b (vertical p q m) =
    let f = fits_end arrange Auto Auto content vertical_bar m.arrangement m.is q in
    subst (λ (c : Barred). BothAuto arrange content c) (sym m.shown)
    (record {
      none = (λ h. absurd (false≢true (sym h.1)), λ g. absurd (unfit arrange Auto Auto content no_bar p g));
      both = (λ h. absurd (false≢true h.0), λ h. absurd (h.1 f));
      horizontal = λ h _. absurd (false≢true h);
    })
vertical_if arrange content b (horizontal p q r m) =
    let f = fits_end arrange Auto Auto content horizontal_bar m.arrangement m.is r in
    subst (λ (c : Barred). BothAuto arrange content c) (sym m.shown)
    (record {
      none = (λ h. absurd (false≢true (sym h.0)), λ g. absurd (unfit arrange Auto Auto content no_bar p g));
      both = (λ h. absurd (false≢true h.1), λ h. absurd (h.2 f));
      horizontal = λ _ _. unfit arrange Auto Auto content vertical_bar q;
    })
vertical_if arrange content b (both p q r m) =
    subst (λ (c : Barred). BothAuto arrange content c) (sym m.shown)
    (record {
      none = (λ h. absurd (false≢true (sym h.0)), λ g. absurd (unfit arrange Auto Auto content no_bar p g));
      both = (λ _. (unfit arrange Auto Auto content no_bar p, unfit arrange Auto Auto content vertical_bar q, unfit arrange Auto Auto content horizontal_bar r), λ _. (refl, refl));
      horizontal = λ _ h. absurd (false≢true (sym h));
    })

pub vertical-first : (arrange : Arranges) (content : Size) (b : Barred) → barred_by arrange Auto Auto content ≡ Ok b → BothAuto arrange content b
vertical-first arrange content b is = vertical_if arrange content b (four_by arrange content b is)

-- ---- how many are made

up_to_most : (end : Trial → Bool) (ts : List Trial) → length (up_to end ts) ≤ length ts
up_to_most end [] = omega arith
up_to_most end (t ∷ ts) = most (end t) (up_to_most end ts)
  where
    most : (e : Bool) → length (up_to end ts) ≤ length ts → length (t ∷ (if e then [] else up_to end ts)) ≤ length (t ∷ ts)
    most true h = omega arith
    most false h = omega arith

few_of : (end : Trial → Bool) (t : Trial) (ts : List Trial) → length ts ≤ 3 → IsFew (length (up_to end (t ∷ ts)))
few_of end t ts short = let h = up_to_most end (t ∷ ts) in record { some = omega arith; few = omega arith }

pub few-trials : (arrange : Arranges) (x y : Overflow) (content : Size) → IsFew (length (made arrange x y content))
few-trials arrange Auto Auto content = few_of (ends arrange Auto Auto content) no_bar (vertical_bar ∷ (horizontal_bar ∷ (both_bars ∷ []))) (omega arith)
few-trials arrange Auto Hidden content = few_of (ends arrange Auto Hidden content) no_bar (horizontal_bar ∷ []) (omega arith)
few-trials arrange Auto Scroll content = few_of (ends arrange Auto Scroll content) vertical_bar (both_bars ∷ []) (omega arith)
few-trials arrange Hidden Auto content = few_of (ends arrange Hidden Auto content) no_bar (vertical_bar ∷ []) (omega arith)
few-trials arrange Hidden Hidden content = few_of (ends arrange Hidden Hidden content) no_bar [] (omega arith)
few-trials arrange Hidden Scroll content = few_of (ends arrange Hidden Scroll content) vertical_bar [] (omega arith)
few-trials arrange Scroll Auto content = few_of (ends arrange Scroll Auto content) horizontal_bar (both_bars ∷ []) (omega arith)
few-trials arrange Scroll Hidden content = few_of (ends arrange Scroll Hidden content) horizontal_bar [] (omega arith)
few-trials arrange Scroll Scroll content = few_of (ends arrange Scroll Scroll content) both_bars [] (omega arith)

-- ---- the first of some trials, and those after it

ends_known : (arrange : Arranges) (x y : Overflow) (content : Size) (t : Trial) (b : Barred) → outcome arrange content t ≡ Ok b → ends arrange x y content t ≡ fits x y t b.arrangement.over
ends_known arrange x y content t b is =
    let m = made_by arrange content t b is in
    ap (ends_by x y t) m.is ∙ ap (λ (c : Barred). fits x y t c.arrangement.over) (sym m.shown)

up_to_one : (e : Bool) (end : Trial → Bool) (t : Trial) (later : List Trial) → ((length later == 0) ≡ true) ⊎ (e ≡ true) → length (t ∷ (if e then [] else up_to end later)) ≡ 1
up_to_one true end t later last = refl
up_to_one false end t [] last = refl
up_to_one false end t (next ∷ later) (inl empty) = absurd (let z = eqb-true (length (next ∷ later)) 0 empty in omega arith)
up_to_one false end t (next ∷ later) (inr fine) = absurd (false≢true fine)

-- what a test came to is what it is said to mean
pub tests-true : (r b : Bool) → r ≡ b → r ≡ true → b ≡ true
tests-true r b is so = sym is ∙ so

-- the trial that was made is the last one, or it fits: it was the only one
pub made-one : (arrange : Arranges) (x y : Overflow) (content : Size) (ts : List Trial) (t : Trial) (later : List Trial) (b : Barred) → ts ≡ t ∷ later → outcome arrange content t ≡ Ok b
    → ((length later == 0) ≡ true) ⊎ (fits x y t b.arrangement.over ≡ true) → length (made_of arrange x y content ts) ≡ 1
made-one arrange x y content ts t later b all is last =
    ap (λ (us : List Trial). length (made_of arrange x y content us)) all
    ∙ up_to_one (ends arrange x y content t) (ends arrange x y content) t later
    (elim last [ inl empty ↦ inl empty | inr fine ↦ inr (ends_known arrange x y content t b is ∙ fine) ])

-- a trial that neither is the last nor fits: those after it count
pub record GoesOn (arrange : Arranges) (x y : Overflow) (content : Size) (ts later : List Trial) : Type 0 where
  pub outcome : tried_in_order arrange x y content ts ≡ tried_in_order arrange x y content later
  pub count : length (made_of arrange x y content ts) ≡ suc (length (made_of arrange x y content later))

last_if : (e : Bool) (end : Trial → Bool) (t : Trial) (later : List Trial) → e ≡ false → (length later == 0) ≡ false
    → (last_of t (if e then [] else up_to end later) ≡ last_of no_bar (up_to end later)) × (length (t ∷ (if e then [] else up_to end later)) ≡ suc (length (up_to end later)))
last_if true end t later on some = absurd (false≢true (sym on))
last_if false end t [] on some = absurd (false≢true (sym some))
last_if false end t (next ∷ later) on some = (refl, refl)

pub goes-on : (arrange : Arranges) (x y : Overflow) (content : Size) (ts : List Trial) (t : Trial) (later : List Trial) (b : Barred) → ts ≡ t ∷ later → outcome arrange content t ≡ Ok b
    → (empty fit : Bool) → empty ≡ (length later == 0) → empty ≡ false → fit ≡ fits x y t b.arrangement.over → fit ≡ false → GoesOn arrange x y content ts later
goes-on arrange x y content ts t later b all is empty fit empty_is some fit_is no_fit =
    let s = last_if (ends arrange x y content t) (ends arrange x y content) t later (ends_known arrange x y content t b is ∙ (sym fit_is ∙ no_fit)) (sym empty_is ∙ some) in
    record {
      outcome = ap (λ (us : List Trial). tried_in_order arrange x y content us) all ∙ ap (λ (u : Trial). outcome arrange content u) s.0;
      count = ap (λ (us : List Trial). length (made_of arrange x y content us)) all ∙ s.1;
    }
