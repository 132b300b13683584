-- What a parser that is bounded in depth answers for tokens that have a tree: the tree where it nests at most so deep, else that it is too deep.
use Rattle.std.proofs.Common.{◌≡◌, ℕ, zero, suc, ◌+◌, ◌-◌, ◌≤◌, ◌<◌, max, List, [], ◌∷◌, ◌++◌, append_assoc, map, length, refl, ap, ◌∙◌, arith, true, false, Ok, Err, codes, inl, inr, if◌then◌else◌, nat_lt, ◌==◌}
use Rattle.std.proofs.lemmas.Bool.{cases_lt, lt-ltb, le-ltb}
use Rattle.std.proofs.Math.Dec.{eqb-suc-zero}
use Rattle.c_language.specs.TokenForms.{Tokens, mark}
use Rattle.c_language.specs.Sees.{sees}
use Rattle.c_language.specs.Words.{Bytes}
use Rattle.c_language.specs.StatementGrammar.{IsSeparated}
use Rattle.c_language.specs.declared.token.TokenKind.TheVariants.{Mark}
use Rattle.c_parse_expr.specs.Outcome.{Outcome, Parser, and_then, Deep, expect}
use Rattle.c_parse_simple.specs.SimpleReading.{separated}
use Rattle.c_parse_expr.proofs.ExprLaws.{Exact}
use Rattle.c_language.specs.Lists.{greatest}

pub done : {A : Type 0} {d : ℕ} {a : A} {rest : Tokens} → Exact d 0 (Ok (a, rest)) a rest
done = record { fits = λ p. refl; deep = λ p. absurd (omega arith) }

pub at_depth : {A : Type 0} {d m n : ℕ} {read : Outcome A} {a : A} {rest : Tokens} → m ≡ n → Exact d m read a rest → Exact d n read a rest
at_depth {d} {m} {n} e x = record { fits = λ p. x.fits (omega (arith, e, p)); deep = λ p. x.deep (omega (arith, e, p)) }

pub same_read : {A : Type 0} {d m : ℕ} {read other : Outcome A} {a : A} {rest : Tokens} → read ≡ other → Exact d m other a rest → Exact d m read a rest
same_read e x = record { fits = λ p. e ∙ x.fits p; deep = λ p. e ∙ x.deep p }

pub same_tree : {A : Type 0} {d m : ℕ} {read : Outcome A} {a b : A} {rest : Tokens} → a ≡ b → Exact d m read a rest → Exact d m read b rest
same_tree {d} {m} {read} {rest} e x = record { fits = λ p. x.fits p ∙ ap (λ c. Ok (c, rest)) e; deep = λ p. x.deep p }

-- one step after another
pub seq : {A B : Type 0} {d m n : ℕ} {p : Outcome A} {a : A} {mid : Tokens} {b : B} {rest : Tokens} (f : A → Parser B)
    → Exact d m p a mid → Exact d n (f a mid) b rest → Exact d (max m n) (and_then p f) b rest
seq {d} {m} {n} {p} {a} {mid} {b} {rest} f x y =
    record {
      fits = λ q. rw (x.fits (omega (arith, q))) (y.fits (omega (arith, q)));
      deep = λ q. elim (cases_lt d m) [
        | inl u ↦ rw (x.deep u) refl
        | inr u ↦ rw (x.fits u) (y.deep (omega (arith, q, u)))
      ];
    }

-- a step that can't be too deep
pub after : {A B : Type 0} {d n : ℕ} {p : Outcome A} {a : A} {mid : Tokens} {b : B} {rest : Tokens} (f : A → Parser B)
    → p ≡ Ok (a, mid) → Exact d n (f a mid) b rest → Exact d n (and_then p f) b rest
after f e y = record { fits = λ q. rw e (y.fits q); deep = λ q. rw e (y.deep q) }

-- a node that needs a depth, above parts that are bounded by the same number
pub guarded : {A : Type 0} {m : ℕ} {read : Outcome A} {a : A} {rest : Tokens} (d : ℕ) → Exact d m read a rest → Exact d (max 1 m) (if d == 0 then Err Deep else read) a rest
guarded zero x = record { fits = λ p. absurd (omega (arith, p)); deep = λ p. refl }
guarded (suc d) x = record { fits = λ p. rw (eqb-suc-zero d) (x.fits (omega (arith, p))); deep = λ p. rw (eqb-suc-zero d) (x.deep (omega (arith, p))) }

-- a node above parts that are bounded by one less
pub lowered : {A : Type 0} {m : ℕ} {a : A} {rest : Tokens} (f : ℕ → Outcome A) (d : ℕ) → ((k : ℕ) → Exact k m (f k) a rest) → Exact d (1 + m) (if d == 0 then Err Deep else f (d - 1)) a rest
lowered f zero x = record { fits = λ p. absurd (omega (arith, p)); deep = λ p. refl }
lowered f (suc d) x = record { fits = λ p. rw (eqb-suc-zero d) ((x (suc d - 1)).fits (omega (arith, p))); deep = λ p. rw (eqb-suc-zero d) ((x (suc d - 1)).deep (omega (arith, p))) }

-- a node behind a part that nests n deep
pub tested : {A : Type 0} {d m : ℕ} {read : Outcome A} {a : A} {rest : Tokens} (n : ℕ) → Exact d m read a rest → Exact d (max (1 + n) m) (if nat_lt n d then read else Err Deep) a rest
tested {d} {m} {read} {a} {rest} n x =
    record {
      fits = λ p. rw (lt-ltb n d (omega (arith, p))) (x.fits (omega (arith, p)));
      deep = λ p. elim (cases_lt n d) [
        | inl u ↦ rw (lt-ltb n d u) (x.deep (omega (arith, p, u)))
        | inr u ↦ rw (le-ltb n d u) refl
      ];
    }

-- a node behind a part that nests n deep, above parts that are bounded by one less
pub under : {A : Type 0} {m : ℕ} {a : A} {rest : Tokens} (f : ℕ → Outcome A) (n d : ℕ) → ((k : ℕ) → Exact k m (f k) a rest) → Exact d (1 + max n m) (if nat_lt n d then f (d - 1) else Err Deep) a rest
under f n d x =
    record {
      fits = λ p. rw (lt-ltb n d (omega (arith, p))) ((x (d - 1)).fits (omega (arith, p)));
      deep = λ p. elim (cases_lt n d) [
        | inl u ↦ rw (lt-ltb n d u) ((x (d - 1)).deep (omega (arith, p, u)))
        | inr u ↦ rw (le-ltb n d u) refl
      ];
    }

-- what one part nests is counted under a node above it
pub greatest_above : {A : Type 0} (f g : A → ℕ) → ((a : A) → (f a ≤ 1 + g a) × (1 + g a ≤ max 1 (f a))) → (all : List A)
    → (greatest (map f all) ≤ 1 + greatest (map g all)) × (1 + greatest (map g all) ≤ max 1 (greatest (map f all)))
greatest_above f g h [] = (omega arith, omega arith)
greatest_above f g h (a ∷ all) = let x = h a in let y = greatest_above f g h all in (omega (arith, x.0, y.0), omega (arith, x.1, y.1))

pub greatest_append : {A : Type 0} (f : A → ℕ) (some all : List A) → greatest (map f (some ++ all)) ≡ max (greatest (map f some)) (greatest (map f all))
greatest_append f [] all = omega arith
greatest_append f (a ∷ some) all = let x = greatest_append f some all in omega (arith, x)

-- ---- lists with commas

module _ {A : Type 0} (Is : Tokens → A → Tokens → Type 0) (close : Bytes) (shorter : (ts rest : Tokens) (a : A) → Is ts a rest → length rest < length ts) where
  pub separated_shorter : {ts rest : Tokens} {all : List A} → IsSeparated Is close ts all rest → length rest < length ts
  separated_shorter (IsSeparated.last {l} {ts} {rest} {a} h) = omega (arith, shorter ts (mark close l ∷ rest) a h)
  separated_shorter (IsSeparated.more {l} {ts} {mid} {a} h k) = omega (arith, shorter ts (mark (codes ",") l ∷ mid) a h, separated_shorter k)

module _ {A : Type 0} (Is : Tokens → A → Tokens → Type 0) (close : Bytes) (read : Parser A) (f : A → ℕ) (d : ℕ)
    (closes : (l : ℕ) (ts : Tokens) → sees Mark close (mark close l ∷ ts) ≡ true)
    (apart : (l : ℕ) (ts : Tokens) → sees Mark close (mark (codes ",") l ∷ ts) ≡ false)
    (shorter : (ts rest : Tokens) (a : A) → Is ts a rest → length rest < length ts)
    (at_close : (l : ℕ) (ts rest : Tokens) (a : A) → Is ts a (mark close l ∷ rest) → Exact d (f a) (read ts) a (mark close l ∷ rest))
    (at_comma : (l : ℕ) (ts rest : Tokens) (a : A) → Is ts a (mark (codes ",") l ∷ rest) → Exact d (f a) (read ts) a (mark (codes ",") l ∷ rest)) where
  pub separated_exact : {ts rest : Tokens} {all : List A} → IsSeparated Is close ts all rest → (turns : ℕ) (found : List A) → length ts ≤ turns
      → Exact d (greatest (map f all)) (separated close read turns found ts) (found ++ all) rest
  unfolding separated expect sees
  separated_exact (IsSeparated.last {l} {ts} {rest} {a} h) zero found p = absurd (omega (arith, p, shorter ts (mark close l ∷ rest) a h))
  separated_exact (IsSeparated.last {l} {ts} {rest} {a} h) (suc turns) found p = seq _ (at_close l ts rest a h) (same_read (rw (closes l rest) refl) done)
  separated_exact (IsSeparated.more {l} {ts} {mid} {a} h k) zero found p = absurd (omega (arith, p, shorter ts (mark (codes ",") l ∷ mid) a h))
  separated_exact (IsSeparated.more {l} {ts} {mid} {a} {all} h k) (suc turns) found p =
      let short = shorter ts (mark (codes ",") l ∷ mid) a h in
      seq _ (at_comma l ts mid a h) (same_read (rw (apart l mid) refl) (same_tree (append_assoc found (a ∷ []) all) (separated_exact k turns (found ++ a ∷ []) (omega (arith, p, short)))))
