-- What is found of struct types one after another, each by those before it: it stays as it is when more are found.
use Rattle.std.proofs.Common.{◌≡◌, ℕ, zero, suc, ◌+◌, ◌<◌, ◌≤◌, List, [], ◌∷◌, ◌++◌, length, take, get_or, inl, inr, sym, ap, ◌∙◌, arith, append_assoc, append-nil, length-append}
use Rattle.std.proofs.Math.Seq.{take-append_seam, get_or-append_seam}
use Rattle.std.proofs.lemmas.Bool.{cases_lt}
use Rattle.std.proofs.lemmas.List.{get_or-take, get_or_past, length-take}
use Rattle.c_language.specs.declared.expr_type.ExprType.{ExprType}
use Rattle.c_meaning.specs.Cells.{Structs}

-- how what is known grows: by what is found of one struct type
pub record Grows {A : Type 0} (found : List A → List ExprType → A) (all : List A → Structs → List A) (nothing : A) : Type 0 where
  pub ends : (known : List A) → all known [] ≡ known
  pub goes : (known : List A) (ts : List ExprType) (ss : Structs) → all known (ts ∷ ss) ≡ all (known ++ found known ts ∷ []) ss
  pub empty : (known : List A) → found known [] ≡ nothing

record IsFront {A : Type 0} (xs ys : List A) : Type 0 where
  rest : List A
  is : ys ≡ xs ++ rest

module _ {A : Type 0} (found : List A → List ExprType → A) (all : List A → Structs → List A) (nothing : A) (g : Grows found all nothing) where
  front : (known : List A) (ss : Structs) → IsFront known (all known ss)
  front known [] = record { rest = []; is = g.ends known ∙ sym (append-nil known) }
  front known (ts ∷ ss) =
      let more = front (known ++ found known ts ∷ []) ss in
      record { rest = found known ts ∷ more.rest; is = g.goes known ts ss ∙ more.is ∙ append_assoc known (found known ts ∷ []) more.rest }

  pub length-all : (known : List A) (ss : Structs) → length (all known ss) ≡ length known + length ss
  length-all known [] = let e = ap (λ (xs : List A). length xs) (g.ends known) in omega (arith, e)
  length-all known (ts ∷ ss) =
      let e = ap (λ (xs : List A). length xs) (g.goes known ts ss) in
      let more = length-all (known ++ found known ts ∷ []) ss in
      let one = length-append known (found known ts ∷ []) in
      omega (arith, e, more, one)

  -- the first ones are those that were known
  front_stays : (known : List A) (ss : Structs) (n : ℕ) → n ≡ length known → take n (all known ss) ≡ known
  front_stays known ss n e =
      let f = front known ss in
      ap (λ (k : ℕ). take k (all known ss)) e ∙ ap (take (length known)) f.is ∙ take-append_seam known f.rest

  next_found : (known : List A) (ts : List ExprType) (ss : Structs) (n : ℕ) (d : A) → n ≡ length known
      → get_or (all known (ts ∷ ss)) n d ≡ found known ts
  next_found known ts ss n d e =
      let f = front (known ++ found known ts ∷ []) ss in
      ap (λ (k : ℕ). get_or (all known (ts ∷ ss)) k d) e
      ∙ ap (λ (xs : List A). get_or xs (length known) d) (g.goes known ts ss ∙ f.is ∙ append_assoc known (found known ts ∷ []) f.rest)
      ∙ get_or-append_seam known (found known ts) f.rest d

  -- what is found of a struct type, by those before it
  found_behind : (known : List A) (ss : Structs) (i n : ℕ) (d : A) → i < length ss → n ≡ length known + i
      → get_or (all known ss) n d ≡ found (take n (all known ss)) (get_or ss i [])
  found_behind known [] i n d within e = absurd (omega (arith, within))
  found_behind known (ts ∷ ss) zero n d within e =
      let same : n ≡ length known = omega (arith, e) in
      next_found known ts ss n d same ∙ ap (λ (xs : List A). found xs ts) (sym (front_stays known (ts ∷ ss) n same))
  found_behind known (ts ∷ ss) (suc i) n d within e =
      let one = length-append known (found known ts ∷ []) in
      ap (λ (xs : List A). get_or xs n d) (g.goes known ts ss)
      ∙ found_behind (known ++ found known ts ∷ []) ss i n d (omega (arith, within)) (omega (arith, e, one))
      ∙ ap (λ (xs : List A). found (take n xs) (get_or ss i [])) (sym (g.goes known ts ss))

  -- a number past all has nothing
  found_at : (ss : Structs) (s : ℕ) → get_or (all [] ss) s nothing ≡ found (take s (all [] ss)) (get_or ss s [])
  found_at ss s =
      elim (cases_lt s (length ss)) [
        | inl within ↦ found_behind [] ss s s nothing within (omega arith)
        | inr past ↦
            let size = length-all [] ss in
            get_or_past (all [] ss) s nothing (omega (arith, past, size))
            ∙ sym (g.empty (take s (all [] ss))) ∙ ap (found (take s (all [] ss))) (sym (get_or_past ss s [] past))
      ]

  -- the same, where only those below a limit count
  pub found_below : (ss : Structs) (limit s : ℕ) → s < limit → get_or (take limit (all [] ss)) s nothing ≡ found (take s (all [] ss)) (get_or ss s [])
  found_below ss limit s low = get_or-take limit (all [] ss) s nothing low ∙ found_at ss s

  pub none_past : (ss : Structs) (limit s : ℕ) → limit ≤ s → get_or (take limit (all [] ss)) s nothing ≡ nothing
  none_past ss limit s past =
      let size = length-take limit (all [] ss) in
      get_or_past (take limit (all [] ss)) s nothing (omega (arith, past, size))
