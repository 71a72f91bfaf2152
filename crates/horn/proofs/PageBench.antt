-- The release page on the bench set and on texts that a wrong reading of L2 would answer otherwise, computed.
use Prim.Native.Nat.{ℕ}
use mathlib.Core.Path.{◌≡◌, refl}
use mathlib.Core.List.{List, [], ◌∷◌, ◌++◌}
use lib.ListN.{length, replicate}
use Rattle.horn.specs.Names.{codes}
use Rattle.horn.specs.Setting.{document01}
use Rattle.horn.specs.Output.{Output, output, right_aligned, name_field}
use Rattle.horn.specs.Page.{percentage, last_line, page_of, page_call}
use Rattle.horn.proofs.Run.{open_all}
use Rattle.horn.proofs.Bench.{text_r, text_g, text_c}
use Rattle.horn.proofs.RequestsBench.{bench_run}
use Rattle.horn.proofs.Page.{page_length}

-- The call for the page, on areas just long enough.
abbrev pub paged : List ℕ → List ℕ → List ℕ → List ℕ → Output
paged = page_call document01 16_384 16_384 16_384 16_384

-- A buffer of so many bytes, each 5A.
unfoldable pub lent : ℕ → List ℕ
lent n = replicate n 0x5A

-- The page of the bench set: its goal's line, and both steps used.
unfoldable pub bench_page : List ℕ
bench_page =
    codes "g                                       1 more                  \n"
    ++ codes "used 100%                                                       \n"

-- The page in buffers of several lengths, and refusals; where another reading would give another number, that number is named.
pub record BenchPage : Type 0 where
  -- a buffer that the page fills
  pub filled : paged text_r text_g text_c (lent 130) ≡ output 0 130 bench_page
  -- "bytes of the lent buffer beyond a written text are untouched"
  pub beyond : paged text_r text_g text_c (lent 133) ≡ output 0 130 (bench_page ++ lent 3)
  -- "31, output longer than the lent buffer, .. nothing written"
  pub one_short : paged text_r text_g text_c (lent 129) ≡ output 31 0 (lent 129)
  pub no_room : paged text_r text_g text_c [] ≡ output 31 0 []
  -- "after all of 1 to 29": not 31
  pub goal_open_first : paged text_r text_g [] [] ≡ output 29 0 []
  pub result_twice : paged text_r text_g (text_c ++ codes "(result g 1)") (lent 3) ≡ output 12 0 (lent 3)
  -- "a release that is refused writes no byte"
  pub refused : paged text_r text_g [] (lent 130) ≡ output 29 0 (lent 130)

pub bench_page_lem : BenchPage
unfolding text_r text_g text_c lent bench_page open_all
bench_page_lem =
    record { filled = refl; beyond = refl; one_short = refl; no_room = refl; goal_open_first = refl; result_twice = refl; refused = refl }

-- The theorem on the page's length at it.
pub bench_length : length (page_of bench_run.release) ≡ 130
unfolding bench_run
bench_length = page_length bench_run.met

-- Fields, and the number on the last line; where another reading would give something else, that is named.
pub record Fields : Type 0 where
  -- 33 bytes, the last three one character: not 32 of them, and no filling within the name
  pub cut_before : name_field 32 (codes "abcdefghijklmnopqrstuvwxyzabcd" ++ 0xE2 ∷ 0x82 ∷ 0xAC ∷ []) ≡ codes "abcdefghijklmnopqrstuvwxyzabcd  "
  -- 32 bytes, the last three one character: all of them
  pub whole : name_field 32 (codes "abcdefghijklmnopqrstuvwxyzabc" ++ 0xE2 ∷ 0x82 ∷ 0xAC ∷ []) ≡ codes "abcdefghijklmnopqrstuvwxyzabc" ++ 0xE2 ∷ 0x82 ∷ 0xAC ∷ []
  -- 33 bytes, the first 32 of whole characters: 32 of them
  pub cut_behind : name_field 32 (codes "abcdefghijklmnopqrstuvwxyzabc" ++ 0xE2 ∷ 0x82 ∷ 0xAC ∷ 0x78 ∷ []) ≡ codes "abcdefghijklmnopqrstuvwxyzabc" ++ 0xE2 ∷ 0x82 ∷ 0xAC ∷ []
  pub long_rule : name_field 22 (codes "abcdefghijklmnopqrstuvwxyz") ≡ codes "abcdefghijklmnopqrstuv"
  -- "a name's behind it", a number's before it
  pub short_name : name_field 8 (codes "more") ≡ codes "more    "
  pub short_number : right_aligned 8 10 ≡ codes "      10"
  -- "halves up": 12.5 is 13 and not 12, 0.5 is 1; 33.3 is 33, 66.6 is 67; fewer than a half of one is 0
  pub eighth : percentage 1 8 ≡ 13
  pub half : percentage 1 200 ≡ 1
  pub third : percentage 1 3 ≡ 33
  pub two_thirds : percentage 2 3 ≡ 67
  pub below_half : percentage 1 201 ≡ 0
  pub all_steps : percentage 7 7 ≡ 100
  pub line_at_end : last_line 1 8 ≡ codes "used  13%                                                       \n"

pub fields : Fields
unfolding open_all
fields =
    record {
      cut_before = refl;
      whole = refl;
      cut_behind = refl;
      long_rule = refl;
      short_name = refl;
      short_number = refl;
      eighth = refl;
      half = refl;
      third = refl;
      two_thirds = refl;
      below_half = refl;
      all_steps = refl;
      line_at_end = refl;
    }

-- Which steps are used, and in which order goals are shown; where another reading would give something else, that is named.
pub record Leaning : Type 0 where
  -- a step that is leaned on only through another: not 33 and not 67
  pub through_others :
      paged text_r (codes "(goal g (hold (s (s z))))") (codes "(step 0 base ())(step 1 more (0))(step 2 more (1))(result g 2)") (lent 130)
      ≡ output 0 130
      (codes "g                                       2 more                  \n"
      ++ codes "used 100%                                                       \n")
  -- a step that nothing leans on, behind the result's and before it: not 100
  pub unused :
      paged text_r (codes "(goal g (hold (s z)))") (codes "(step 0 base ())(step 1 base ())(step 2 more (1))(step 3 base ())(result g 2)") (lent 130)
      ≡ output 0 130
      (codes "g                                       2 more                  \n"
      ++ codes "used  50%                                                       \n")
  -- "one line for each goal in goals order", whatever the order of results; a step of two results counts once
  pub goals_order :
      paged text_r (codes "(goal g (hold (s z)))(goal h (hold z))(goal i (hold z))")
      (codes "(step 0 base ())(result i 0)(result h 0)(step 1 more (0))(result g 1)") (lent 260)
      ≡ output 0 260
      (codes "g                                       1 more                  \n"
      ++ codes "h                                       0 base                  \n"
      ++ codes "i                                       0 base                  \n"
      ++ codes "used 100%                                                       \n")
  -- a goal's name of 33 bytes, whose last character is behind the 32nd
  pub long_name :
      paged text_r (codes "(goal abcdefghijklmnopqrstuvwxyzabcd" ++ 0xE2 ∷ 0x82 ∷ 0xAC ∷ [] ++ codes " (hold z))")
      (codes "(step 0 base ())(result abcdefghijklmnopqrstuvwxyzabcd" ++ 0xE2 ∷ 0x82 ∷ 0xAC ∷ [] ++ codes " 0)") (lent 130)
      ≡ output 0 130
      (codes "abcdefghijklmnopqrstuvwxyzabcd          0 base                  \n"
      ++ codes "used 100%                                                       \n")

pub leaning : Leaning
unfolding text_r lent open_all
leaning = record { through_others = refl; unused = refl; goals_order = refl; long_name = refl }
