-- Runs of numbers: what two of them have in common, and coordinates as they are read back from their bits.
use Rattle.std.proofs.Common.{◌≡◌, ℕ, ◌-◌, ◌^◌, ◌<◌, ◌⊎◌, inl, inr, arith, ℤ, pos, to_z, of_z, w32, w64, Fits}
use Rattle.std.specs.Prelude.{◌+ℤ◌, ◌-ℤ◌, ◌≤ℤ◌, ◌<ℤ◌, unsigned_abs, ◌↔◌}
use Rattle.std.specs.Int.{int_max, int_min, IsNonNegative}
use Rattle.std.proofs.lemmas.Int.{ints, clamps, to_z-of_z}
use mir.Val.{SFits}
use Rattle.tx_geom.specs.Region.{IsAmong, IsNear, Holds, nothing_at}
use Rattle.tx_geom.specs.declared.places.Offset.{Offset}
use Rattle.tx_geom.specs.declared.places.Region.{Region}

-- a coordinate as it is read back from its bits
abbrev pub read_back : ℤ → ℤ
read_back z = to_z w64 (of_z w64 z)

pub read_back-fits : (z : ℤ) → SFits w64 z → read_back z ≡ z
read_back-fits z f = to_z-of_z w64 z f

-- the last of two runs' starts and the first of their ends
pub record IsOverlap (a b : ℤ) (m n : ℕ) (first end : ℤ) : Type 0 where
  pub from : first ≡ int_max a b
  pub to : end ≡ int_min (a +ℤ pos m) (b +ℤ pos n)

pub overlap_near : (a b : ℤ) (m n : ℕ) (first end : ℤ) → IsNear a → IsNear b → m < 2 ^ 32 → n < 2 ^ 32 → IsOverlap a b m n first end
    → SFits w64 first × SFits w64 end × SFits w64 (end -ℤ first) × (end ≤ℤ (first +ℤ pos (2 ^ 32 - 1)))
overlap_near a b m n first end ha hb hm hn h =
    let f = h.from in
    let t = h.to in
    (omega (arith, ints, clamps), omega (arith, ints, clamps), omega (arith, ints, clamps), omega (arith, ints, clamps))

-- what lies from the one to the other is in both
pub overlap_is : (a b : ℤ) (m n : ℕ) (first end : ℤ) (k : ℕ) → IsOverlap a b m n first end → end ≡ first +ℤ pos k
    → (z : ℤ) → IsAmong first k z ↔ (IsAmong a m z × IsAmong b n z)
overlap_is a b m n first end k h e z =
    let f = h.from in
    let t = h.to in (
      λ p. (record { from_on = omega (arith, ints, clamps); before = omega (arith, ints, clamps) }, record { from_on = omega (arith, ints, clamps); before = omega (arith, ints, clamps) }),
      λ p. record { from_on = omega (arith, ints, clamps); before = omega (arith, ints, clamps) },
    )

-- and where the end isn't behind the start, nothing is
pub overlap_none : (a b : ℤ) (m n : ℕ) (first end : ℤ) → IsOverlap a b m n first end → end ≤ℤ first
    → (z : ℤ) → IsAmong first 0 z ↔ (IsAmong a m z × IsAmong b n z)
overlap_none a b m n first end h low z =
    let f = h.from in
    let t = h.to in
    (λ p. absurd (omega (arith, ints)), λ p. absurd (omega (arith, ints, clamps)))

-- the length of what is common, as it is cast
pub length_is : (first end : ℤ) → SFits w64 (end -ℤ first) → first <ℤ end → end ≤ℤ (first +ℤ pos (2 ^ 32 - 1))
    → IsNonNegative (read_back (end -ℤ first)) × Fits w32 (unsigned_abs (read_back (end -ℤ first))) × (end ≡ first +ℤ pos (unsigned_abs (read_back (end -ℤ first))))
length_is first end f low high = rw (read_back-fits (end -ℤ first) f) (omega (arith, ints), omega (arith, ints), omega (arith, ints))

pub near_fits : (z : ℤ) → IsNear z → SFits w64 z
near_fits z h = omega (arith, ints)

-- the sum of two coordinates, as the code writes it
pub sum_written : (a b : ℤ) → IsNear a → IsNear b → read_back (read_back a +ℤ read_back b) ≡ a +ℤ b
sum_written a b ha hb =
    let f : SFits w64 (a +ℤ b) = omega (arith, ints) in
    rw (read_back-fits a (near_fits a ha), read_back-fits b (near_fits b hb)) (read_back-fits (a +ℤ b) f)

end_written : (a : ℤ) (m : ℕ) → IsNear a → m < 2 ^ 32 → read_back (read_back a +ℤ to_z w64 m) ≡ a +ℤ pos m
end_written a m ha hm =
    let f : SFits w64 (a +ℤ pos m) = omega (arith, ints) in
    let e : to_z w64 m ≡ pos m = omega (arith, ints) in
    rw (read_back-fits a (near_fits a ha), e) (read_back-fits (a +ℤ pos m) f)

pub overlap_written : (a b : ℤ) (m n : ℕ) (first end : ℤ) → IsNear a → IsNear b → m < 2 ^ 32 → n < 2 ^ 32
    → first ≡ int_max (read_back a) (read_back b) → end ≡ int_min (read_back (read_back a +ℤ to_z w64 m)) (read_back (read_back b +ℤ to_z w64 n))
    → IsOverlap a b m n first end
overlap_written a b m n first end ha hb hm hn f e =
    record {
      from = rw (read_back-fits a (near_fits a ha), read_back-fits b (near_fits b hb)) at f;
      to = rw (end_written a m ha hm, end_written b n hb hn) at e;
    }

-- ---- regions, by their columns and rows

-- a run holds what two others have in common
abbrev pub IsCommon : ℤ → ℕ → ℤ → ℕ → ℤ → ℕ → Type 0
IsCommon a m b n r k = (z : ℤ) → IsAmong r k z ↔ (IsAmong a m z × IsAmong b n z)

pub common_back : (a b r : ℤ) (m n k : ℕ) → IsNear a → IsNear b → IsCommon (read_back a) m (read_back b) n r k → IsCommon a m b n r k
common_back a b r m n k ha hb h = rw (read_back-fits a (near_fits a ha), read_back-fits b (near_fits b hb)) at h

pub common_cells : (s o r : Region) → IsCommon s.x s.width o.x o.width r.x r.width → IsCommon s.y s.height o.y o.height r.y r.height
    → (p : Offset) → Holds r p ↔ (Holds s p × Holds o p)
common_cells s o r x y p = (
  λ h.
      let a = (x p.x).0 h.column in
      let b = (y p.y).0 h.row in
      (record { column = a.0; row = b.0 }, record { column = a.1; row = b.1 }),
  λ h. record { column = (x p.x).1 (h.0.column, h.1.column); row = (y p.y).1 (h.0.row, h.1.row) },
)

pub no_cells : (s o : Region) (x y : ℤ) (k l : ℕ) → IsCommon s.x s.width o.x o.width x k → IsCommon s.y s.height o.y o.height y l → (k ≡ 0) ⊎ (l ≡ 0)
    → (p : Offset) → Holds (nothing_at s) p ↔ (Holds s p × Holds o p)
no_cells s o x y k l hx hy none p = (
  λ h. absurd (let c = h.column in omega (arith, ints)),
  λ h.
      let a : IsAmong x k p.x = (hx p.x).1 (h.0.column, h.1.column) in
      let b : IsAmong y l p.y = (hy p.y).1 (h.0.row, h.1.row) in
      absurd (elim none [ inl e ↦ omega (arith, ints) | inr e ↦ omega (arith, ints) ]),
)

pub some_cell : (s o : Region) (x y : ℤ) (k l : ℕ) → IsCommon s.x s.width o.x o.width x k → IsCommon s.y s.height o.y o.height y l → 0 < k → 0 < l
    → ((p : Offset) → Holds s p → ¬ Holds o p) → ⊥
some_cell s o x y k l hx hy hk hl apart =
    let a = (hx x).0 (record { from_on = omega (arith, ints); before = omega (arith, ints) }) in
    let b = (hy y).0 (record { from_on = omega (arith, ints); before = omega (arith, ints) }) in
    apart (record { x = x; y = y }) (record { column = a.0; row = b.0 }) (record { column = a.1; row = b.1 })
