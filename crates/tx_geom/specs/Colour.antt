-- Colours, and what one over another comes to.
use Rattle.std.specs.Prelude.{ℕ, ◌+◌, ◌-◌, ◌*◌, ◌/◌}
use Rattle.tx_geom.specs.declared.colours.Rgb.{Rgb}

-- what a colour is: its three channels, and how much of it covers what lies under it, in percent
pub record Tint : Type 0 where
  pub rgb : Rgb
  pub alpha : ℕ

-- a channel of a colour that covers alpha percent of a channel under it, with a half rounded up
abbrev pub blended_channel : ℕ → ℕ → ℕ → ℕ
blended_channel alpha over under = (over * alpha + under * (100 - alpha) + 50) / 100

-- the same in each channel
abbrev pub blended : Tint → Rgb → Rgb
blended over under =
    record {
      r = blended_channel over.alpha over.rgb.r under.r;
      g = blended_channel over.alpha over.rgb.g under.g;
      b = blended_channel over.alpha over.rgb.b under.b;
    }
