-- "The texts and the work areas" in document 01: the limits, which the definitions take as a parameter, and 01's own values.
use Rattle.std.specs.Prelude.{ℕ}

-- What may differ from setting to setting. The greatest depth, 256, and the bound of numbers, 2 to the 64, are the same in all.
pub record Setting : Type 0 where
  -- how many words each of the first three work areas must have; as many are zero after a call, but for refusals 1 and 2
  pub area_words : ℕ
  -- the same for the fourth work area
  pub last_area_words : ℕ
  -- how many bytes each text may have
  pub rulebook_bytes : ℕ
  pub goals_bytes : ℕ
  pub certificate_bytes : ℕ
  -- how many nodes the store may hold, and how many words they may take together
  pub nodes : ℕ
  pub node_words : ℕ

-- "Rulebook and goals have at most 8,192 bytes each, the certificate 32,768. Four work areas of 32-bit words are lent,
-- each of at least 16,384 words." "At most 2,048 nodes and 8,192 words (1 plus arguments each)."
unfoldable pub document01 : Setting
document01 =
    record {
      area_words = 16_384;
      last_area_words = 16_384;
      rulebook_bytes = 8_192;
      goals_bytes = 8_192;
      certificate_bytes = 32_768;
      nodes = 2_048;
      node_words = 8_192;
    }
