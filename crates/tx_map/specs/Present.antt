-- What is laid out, of what the core keeps.
use Rattle.std.specs.Prelude.{ℕ, Option}
use Rattle.tx_cascade.specs.Styles.{StylesValue, all_styles}
use Rattle.tx_geom.specs.declared.places.Size.{Size}
use Rattle.tx_map.specs.Scene.{Scene}
use Rattle.tx_node_map.specs.Held.{nothing}

-- the rows that styles were made of, with these, as far as they are scrolled, on a screen of this size
abbrev pub scene_of : StylesValue → (ℕ → Option (ℕ × ℕ)) → Size → Scene
scene_of styles scrolls size =
    record {
      rows = styles.rows;
      styles = all_styles styles.sheet styles.state styles.rows;
      pictures = nothing;
      scrolls = scrolls;
      size = size;
    }
