-- The tests of lengths, before anything is read: which refusal they give, and what the definition is behind them. Assumes nothing.
use Prim.Native.Nat.{ℕ, ◌≤◌, ◌<◌}
use mathlib.Core.Path.{◌≡◌}
use mathlib.Core.Bool.{true, false}
use mathlib.Core.List.{List}
use lib.ListN.{length}
use borrow.Author.Tests.{le-leb, lt-leb}
use Rattle.clearing.specs.Below.horn.specs.Refusals.{Result, refused, need, ◌>>=◌, area_short, text_long}
use Rattle.clearing.specs.Below.horn.specs.Setting.{document01}
use Rattle.clearing.specs.Below.horn.specs.Calls.{Release, release_read}
use Rattle.clearing.specs.Lengths.{long_enough}
use Rattle.clearing.proofs.Areas.{areas_long_lem}
use Rattle.checker_laws.proofs.Whole.{judged}

module _ (a b c d : ℕ) (rulebook goals certificate : List ℕ) where
  abbrev call_read : Result Release
  call_read = release_read document01 a b c d rulebook goals certificate

  -- 1, by the areas.
  pub area_short_lem : long_enough a b c d ≡ false → call_read ≡ refused area_short
  unfolding release_read need ◌>>=◌
  area_short_lem e = rw (areas_long_lem a b c d, e)

  module _ (long : long_enough a b c d ≡ true) where
    -- 2, by the first text that is too long.
    pub rulebook_long : 8192 < length rulebook → call_read ≡ refused text_long
    unfolding release_read document01 need ◌>>=◌
    rulebook_long h = rw (areas_long_lem a b c d, long, lt-leb (length rulebook) 8192 h)

    module _ (short_rulebook : length rulebook ≤ 8192) where
      pub goals_long : 8192 < length goals → call_read ≡ refused text_long
      unfolding release_read document01 need ◌>>=◌
      goals_long h = rw (areas_long_lem a b c d, long, le-leb (length rulebook) 8192 short_rulebook, lt-leb (length goals) 8192 h)

      module _ (short_goals : length goals ≤ 8192) where
        pub certificate_long : 32768 < length certificate → call_read ≡ refused text_long
        unfolding release_read document01 need ◌>>=◌
        certificate_long h =
            rw (
              areas_long_lem a b c d,
              long,
              le-leb (length rulebook) 8192 short_rulebook,
              le-leb (length goals) 8192 short_goals,
              lt-leb (length certificate) 32768 h,
            )

        pub read_judged : length certificate ≤ 32768 → call_read ≡ judged rulebook goals certificate
        unfolding release_read judged document01 need ◌>>=◌
        read_judged h =
            rw (
              areas_long_lem a b c d,
              long,
              le-leb (length rulebook) 8192 short_rulebook,
              le-leb (length goals) 8192 short_goals,
              le-leb (length certificate) 32768 h,
            )
