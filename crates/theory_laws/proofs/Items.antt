-- The next item, where the walk stands before a nested list that was read whole. Assumes nothing.
use mathlib.Core.Path.{◌≡◌}
use mathlib.Core.List.{List, ◌∷◌}
use Prim.Native.Nat.{ℕ, ◌+◌, ◌≤◌, ◌<◌}
use native.Mathlib.Omega.{arith}
use lib.ListN.{length, get_or}
use Rattle.capacity.specs.Below.horn.specs.Tokens.{Stream, ◌▹◌, Token, opening, closing, atom}
use Rattle.theory.specs.Below.words.specs.Parts.{part}
use Rattle.theory.specs.Below.words.specs.Sums.{sum32}
use Rattle.theory.specs.Below.words.proofs.Sums.{sum_small}
use Rattle.theory.specs.Below.lex.specs.Answers as lexed
use Rattle.theory.specs.Below.lex.specs.declared.Token as read
use Rattle.theory.specs.Below.lex.specs.declared.Token.TheVariants.{Opening, Closing, Atom}
use Rattle.theory.specs.Below.lex.specs.declared.Reader.{Reader}
use Rattle.theory.specs.Below.outcomes.specs.Outcomes as outcomes
use Rattle.theory.specs.Below.items.specs.Items as items
use Rattle.theory.specs.Below.items.specs.Items.{read_on, opened_one, item_due, closing_due}
use Rattle.theory.specs.Below.items.specs.declared.Walk.{Walk}
use Rattle.theory_laws.specs.Reading.{Same, same_opening, same_closing, same_atom, Takes, Reads, Next, one_next, Walks}

module _ (text counts : List ℕ) (Before : Reader → Stream Token → Type 0) (reads : Reads text Before) where
  -- An atom there.
  pub record AtomMet (bytes : List ℕ) (ts : Stream Token) (ks : List ℕ) (w : Walk) : Type 0 where
    pub s : ℕ
    pub t : ℕ
    pub next : Reader
    pub met : item_due text counts w ≡ outcomes.ok (items.atom s t (read_on w next))
    pub name : part s t text ≡ bytes
    pub some_byte : s < t
    pub inside : t ≤ length text
    pub walks : Walks text counts Before ts ks (read_on w next)

  pub atom_met : {bytes : List ℕ} {ts : Stream Token} {ks : List ℕ} {w : Walk} → Walks text counts Before (atom bytes ▹ ts) ks w
      → AtomMet bytes ts ks w
  unfolding item_due
  atom_met {bytes} {ts} {ks} {w} h = by (reads.at_token w.reader (atom bytes) ts h.before) where
    from : (got : read.Token) (next : Reader) → lexed.taken text w.reader ≡ lexed.token got next → Same text got (atom bytes)
        → Before next ts
        → AtomMet bytes ts ks w
    from Opening next e x3 b = elim x3 [ ]
    from Closing next e x4 b = elim x4 [ ]
    from (Atom s t) next e (same_atom n l u) b =
        record {
          s = s;
          t = t;
          next = next;
          met = rw e;
          name = n;
          some_byte = l;
          inside = u;
          walks = record { before = b; counted = h.counted; few = h.few };
        }

    by : Takes text Before w.reader (atom bytes) ts → AtomMet bytes ts ks w
    by k = from k.got k.next k.taken k.same k.before

  -- A list there.
  pub record ListMet (k : ℕ) (ts : Stream Token) (ks : List ℕ) (w : Walk) : Type 0 where
    pub next : Reader
    pub met : item_due text counts w ≡ outcomes.ok (items.list k (opened_one w next))
    pub walks : Walks text counts Before ts ks (opened_one w next)

  pub list_met : {k : ℕ} {ts : Stream Token} {ks : List ℕ} {w : Walk} → Walks text counts Before (opening ▹ ts) (k ∷ ks) w
      → ListMet k ts ks w
  unfolding item_due
  list_met {k} {ts} {ks} {w} h = by (reads.at_token w.reader opening ts h.before) h.counted where
    from : (got : read.Token) (next : Reader) → lexed.taken text w.reader ≡ lexed.token got next → Same text got opening
        → Before next ts
        → get_or counts w.opened 0 ≡ k
        → Next counts (w.opened + 1) ks
        → ListMet k ts ks w
    from Closing next e x5 b c n = elim x5 [ ]
    from (Atom _ _) next e x8 b c n = elim x8 [ ]
    from Opening next e same_opening b c n =
        let f = h.few in
        let q : sum32 w.opened 1 ≡ w.opened + 1 = sum_small w.opened 1 (omega arith) in
        record {
          next = next;
          met = rw (e, c);
          walks = record { before = b; counted = rw q n; few = rw q (omega arith) };
        }

    by : Takes text Before w.reader opening ts → Next counts w.opened (k ∷ ks) → ListMet k ts ks w
    by u (one_next c n) = from u.got u.next u.taken u.same u.before c n

  -- A closing there.
  pub record ClosingMet (ts : Stream Token) (ks : List ℕ) (w : Walk) : Type 0 where
    pub next : Reader
    pub met : closing_due text w ≡ outcomes.ok (read_on w next)
    pub walks : Walks text counts Before ts ks (read_on w next)

  pub closing_met : {ts : Stream Token} {ks : List ℕ} {w : Walk} → Walks text counts Before (closing ▹ ts) ks w → ClosingMet ts ks w
  unfolding closing_due
  closing_met {ts} {ks} {w} h = by (reads.at_token w.reader closing ts h.before) where
    from : (got : read.Token) (next : Reader) → lexed.taken text w.reader ≡ lexed.token got next → Same text got closing
        → Before next ts
        → ClosingMet ts ks w
    from Opening next e x3 b = elim x3 [ ]
    from (Atom _ _) next e x6 b = elim x6 [ ]
    from Closing next e same_closing b =
        record { next = next; met = rw e; walks = record { before = b; counted = h.counted; few = h.few } }

    by : Takes text Before w.reader closing ts → ClosingMet ts ks w
    by k = from k.got k.next k.taken k.same k.before
