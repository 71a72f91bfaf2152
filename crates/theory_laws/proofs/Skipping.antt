-- A rule's name that is a list is passed over: the walk stands behind it. Assumes nothing.
use mathlib.Core.Path.{◌≡◌, refl, ◌∙◌}
use mathlib.Core.List.{List, ◌∷◌}
use Prim.Native.Nat.{ℕ, zero, suc, ◌+◌, ◌-◌, ◌≤◌, ◌<◌}
use native.Mathlib.Omega.{arith}
use borrow.Author.Tests.{lt-ltb}
use Rattle.capacity.specs.Below.horn.specs.Tokens.{Stream, ◌▹◌, Token, opening, closing, atom}
use Rattle.capacity.specs.Below.horn.specs.NestedLists.{Sexp, leaf, list, Sexps, []ₛ, ◌∷ₛ◌}
use Rattle.capacity.specs.Below.horn.proofs.Counts.{stream_length}
use Rattle.theory.specs.Below.lex.specs.Answers as lexed
use Rattle.theory.specs.Below.lex.specs.declared.Token as read
use Rattle.theory.specs.Below.lex.specs.declared.Token.TheVariants.{Opening, Closing, Atom}
use Rattle.theory.specs.Below.lex.specs.declared.Reader.{Reader}
use Rattle.theory.specs.Below.sexp.specs.Flattening.{flat_one, flat, counts_one, counts_all}
use Rattle.theory.specs.Below.outcomes.specs.Outcomes as outcomes
use Rattle.theory.specs.Below.outcomes.specs.Outcomes.{Outcome}
use Rattle.theory.specs.Below.words.specs.Sums.{sum32}
use Rattle.theory.specs.Below.items.specs.Items.{read_on, opened_one}
use Rattle.theory.specs.Below.items.specs.declared.Walk.{Walk}
use Rattle.theory.specs.Below.rule_names.specs.RuleNames.{passed, skipped}
use Rattle.theory_laws.specs.Reading.{Same, same_opening, same_closing, same_atom, Takes, Reads, Next, one_next, Walks}
use Rattle.theory.specs.Below.words.proofs.Sums.{sum_small}

module _ (text counted : List ℕ) (Before : Reader → Stream Token → Type 0) (reads : Reads text Before) where
  -- One token passed: k says how far it goes down.
  record Passes (k : ℕ) (ts : Stream Token) (ks : List ℕ) (w : Walk) : Type 0 where
    next : Walk
    met : passed text w ≡ outcomes.ok (k, next)
    walks : Walks text counted Before ts ks next
    top : next.top ≡ w.top

  pass_atom : {bytes : List ℕ} {ts : Stream Token} {ks : List ℕ} {w : Walk} → Walks text counted Before (atom bytes ▹ ts) ks w → Passes 1 ts ks w
  unfolding passed
  pass_atom {bytes} {ts} {ks} {w} h = by (reads.at_token w.reader (atom bytes) ts h.before) where
    from : (got : read.Token) (next : Reader) → lexed.taken text w.reader ≡ lexed.token got next → Same text got (atom bytes) → Before next ts
        → Passes 1 ts ks w
    from Opening next e x3 b = elim x3 [ ]
    from Closing next e x4 b = elim x4 [ ]
    from (Atom s t) next e (same_atom n l u) b =
        record { next = read_on w next; met = rw e; walks = record { before = b; counted = h.counted; few = h.few }; top = refl }

    by : Takes text Before w.reader (atom bytes) ts → Passes 1 ts ks w
    by k = from k.got k.next k.taken k.same k.before

  pass_closing : {ts : Stream Token} {ks : List ℕ} {w : Walk} → Walks text counted Before (closing ▹ ts) ks w → Passes 0 ts ks w
  unfolding passed
  pass_closing {ts} {ks} {w} h = by (reads.at_token w.reader closing ts h.before) where
    from : (got : read.Token) (next : Reader) → lexed.taken text w.reader ≡ lexed.token got next → Same text got closing → Before next ts → Passes 0 ts ks w
    from Opening next e x3 b = elim x3 [ ]
    from (Atom _ _) next e x6 b = elim x6 [ ]
    from Closing next e same_closing b =
        record { next = read_on w next; met = rw e; walks = record { before = b; counted = h.counted; few = h.few }; top = refl }

    by : Takes text Before w.reader closing ts → Passes 0 ts ks w
    by k = from k.got k.next k.taken k.same k.before

  pass_opening : {k : ℕ} {ts : Stream Token} {ks : List ℕ} {w : Walk} → Walks text counted Before (opening ▹ ts) (k ∷ ks) w → Passes 2 ts ks w
  unfolding passed
  pass_opening {k} {ts} {ks} {w} h = by (reads.at_token w.reader opening ts h.before) h.counted where
    from : (got : read.Token) (next : Reader) → lexed.taken text w.reader ≡ lexed.token got next → Same text got opening → Before next ts
        → Next counted (w.opened + 1) ks
        → Passes 2 ts ks w
    from Closing next e x4 b n = elim x4 [ ]
    from (Atom _ _) next e x7 b n = elim x7 [ ]
    from Opening next e same_opening b n =
        let f = h.few in
        let q : sum32 w.opened 1 ≡ w.opened + 1 = sum_small w.opened 1 (omega arith) in
        record { next = opened_one w next; met = rw e; walks = record { before = b; counted = rw q n; few = rw q (omega arith) }; top = refl }

    by : Takes text Before w.reader opening ts → Next counted w.opened (k ∷ ks) → Passes 2 ts ks w
    by u (one_next c n) = from u.got u.next u.taken u.same u.before n

  -- Some tokens passed.
  pub record Skips (fuel depth depth' : ℕ) (ts : Stream Token) (ks : List ℕ) (w : Walk) : Type 0 where
    pub fuel' : ℕ
    pub next : Walk
    pub same : skipped fuel depth text w ≡ skipped fuel' depth' text next
    pub enough : stream_length ts ≤ fuel'
    pub paid : fuel' + depth' ≤ fuel + depth
    pub walks : Walks text counted Before ts ks next
    pub top : next.top ≡ w.top

  skip_on : {k : ℕ} {ts : Stream Token} {ks : List ℕ} {w : Walk} (fuel depth depth' : ℕ) → Passes k ts ks w → 0 < depth → depth' + 1 ≡ depth + k
      → depth + 2 < 4294967296
      → k ≤ 2
      → suc (stream_length ts) ≤ fuel
      → Skips fuel depth depth' ts ks w
  unfolding skipped stream_length
  skip_on zero depth depth' p d e small two h = absurd (omega arith)
  skip_on {k} (suc fuel) depth depth' p d e small two h =
      let q : sum32 (depth - 1) k ≡ depth' = sum_small (depth - 1) k (omega arith) ∙ omega arith in
      record {
        fuel' = fuel;
        next = p.next;
        same = rw (lt-ltb 0 depth d, p.met, q);
        enough = omega arith;
        paid = omega arith;
        walks = p.walks;
        top = p.top;
      }

  skips_then : {fuel depth depth₁ depth' : ℕ} {ts us : Stream Token} {ks ls : List ℕ} {w : Walk} (a : Skips fuel depth depth₁ ts ks w)
      → Skips a.fuel' depth₁ depth' us ls a.next
      → Skips fuel depth depth' us ls w
  skips_then a b =
      let x = a.paid in
      let y = b.paid in
      record {
        fuel' = b.fuel';
        next = b.next;
        same = a.same ∙ b.same;
        enough = b.enough;
        paid = omega arith;
        walks = b.walks;
        top = b.top ∙ a.top;
      }

  skips_closed : {fuel depth : ℕ} (depth' : ℕ) {ts : Stream Token} {ks : List ℕ} {w : Walk} → Skips fuel depth (depth' + 1) (closing ▹ ts) ks w
      → depth' + 3 < 4294967296
      → Skips fuel depth depth' ts ks w
  unfolding stream_length
  skips_closed depth' b small =
      skips_then b
      (skip_on b.fuel' (depth' + 1) depth' (pass_closing b.walks) (omega arith) (omega arith) (omega arith) (omega arith) b.enough)

  abbrev SkipLaw : Sexp → Type 0
  SkipLaw x =
      (fuel depth : ℕ) (ts : Stream Token) (ks : List ℕ) (w : Walk) → Walks text counted Before (flat_one x ts) (counts_one x ks) w → 0 < depth
      → depth + fuel + 4 < 4294967296
      → stream_length (flat_one x ts) ≤ fuel
      → Skips fuel depth depth ts ks w

  abbrev SkipsLaw : Sexps → Type 0
  SkipsLaw xs =
      (fuel depth : ℕ) (ts : Stream Token) (ks : List ℕ) (w : Walk) → Walks text counted Before (flat xs ts) (counts_all xs ks) w → 0 < depth
      → depth + fuel + 4 < 4294967296
      → stream_length (flat xs ts) ≤ fuel
      → Skips fuel depth depth ts ks w

  skip_leaf : (bytes : List ℕ) → SkipLaw (leaf bytes)
  unfolding flat_one counts_one stream_length
  skip_leaf bytes fuel depth ts ks w h d small enough = skip_on fuel depth depth (pass_atom h) d (omega arith) (omega arith) (omega arith) enough

  skip_list : (xs : Sexps) → SkipsLaw xs → SkipLaw (list xs)
  unfolding flat_one counts_one stream_length
  skip_list xs law fuel depth ts ks w h d small enough =
      let a = skip_on fuel depth (depth + 1) (pass_opening h) d (omega arith) (omega arith) (omega arith) enough in
      let x = a.paid in
      skips_then a
      (skips_closed depth (law a.fuel' (depth + 1) (closing ▹ ts) ks a.next a.walks (omega arith) (omega arith) a.enough) (omega arith))

  skip_none : SkipsLaw []ₛ
  unfolding flat counts_all
  skip_none fuel depth ts ks w h d small enough =
      record { fuel' = fuel; next = w; same = refl; enough = enough; paid = omega arith; walks = h; top = refl }

  skip_more : (x : Sexp) (xs : Sexps) → SkipLaw x → SkipsLaw xs → SkipsLaw (x ∷ₛ xs)
  unfolding flat counts_all
  skip_more x xs one law fuel depth ts ks w h d small enough =
      let a = one fuel depth (flat xs ts) (counts_all xs ks) w h d small enough in
      let x = a.paid in
      skips_then a (law a.fuel' depth ts ks a.next a.walks d (omega arith) a.enough)

  mutual
    skip_law : (x : Sexp) → SkipLaw x
    skip_law (leaf bytes) = skip_leaf bytes
    skip_law (list xs) = skip_list xs (skips_law xs)

    skips_law : (xs : Sexps) → SkipsLaw xs
    skips_law []ₛ = skip_none
    skips_law (x ∷ₛ xs) = skip_more x xs (skip_law x) (skips_law xs)

  -- The rest of a list, with its closing.
  pub record Skipped (ts : Stream Token) (ks : List ℕ) (w : Walk) (o : Outcome Walk) : Type 0 where
    pub next : Walk
    pub met : o ≡ outcomes.ok next
    pub walks : Walks text counted Before ts ks next
    pub top : next.top ≡ w.top

  skipped_none : (fuel : ℕ) (w : Walk) → skipped fuel 0 text w ≡ outcomes.ok w
  unfolding skipped
  skipped_none zero w = refl
  skipped_none (suc fuel) w = refl

  ended : {fuel depth : ℕ} {ts : Stream Token} {ks : List ℕ} {w : Walk} → Skips fuel depth 0 ts ks w → Skipped ts ks w (skipped fuel depth text w)
  ended b = record { next = b.next; met = b.same ∙ skipped_none b.fuel' b.next; walks = b.walks; top = b.top }

  pub rest_skipped : (xs : Sexps) {ts : Stream Token} {ks : List ℕ} {w : Walk} (fuel : ℕ)
      → Walks text counted Before (flat xs (closing ▹ ts)) (counts_all xs ks) w
      → fuel ≤ 8192
      → stream_length (flat xs (closing ▹ ts)) ≤ fuel
      → Skipped ts ks w (skipped fuel 1 text w)
  rest_skipped xs {ts} {ks} {w} fuel h small enough =
      ended (skips_closed 0 (skips_law xs fuel 1 (closing ▹ ts) ks w h (omega arith) (omega arith) enough) (omega arith))
