-- A variable with a number for each length that a list of initialisers gives.
use Rattle.std.proofs.Common.{◌≡◌, ℕ, ◌+◌, max, Bool, true, false, refl, sym, ap, ap₂, ◌∙◌, decimal}
use Rattle.std.proofs.lemmas.Bool.{and_parts, and_from}
use Rattle.c_arith.specs.declared.int_type.IntType.{IntType}
use Rattle.c_tree.specs.declared.raw.expr.RawExpr.TheVariants as e
use Rattle.c_tree.specs.declared.raw.expr.RawLength.{RawLength}
use Rattle.c_tree.specs.declared.raw.expr.RawLength.TheVariants.{Written, Listed}
use Rattle.c_tree.specs.declared.raw.expr.RawType.{RawType, roll-RawType, map-RawType, fold-roll-RawType}
use Rattle.c_tree.specs.declared.raw.expr.RawType.TheOpen.{RawType-F}
use Rattle.c_tree.specs.declared.raw.expr.RawType.TheVariants as type
use Rattle.c_tree.specs.declared.raw.expr.RawVar.{RawVar}
use Rattle.c_tree.specs.declared.raw.program.RawInit.{RawInit}
use Rattle.c_tree.specs.declared.raw.program.RawInit.TheVariants as init
use Rattle.c_tree.proofs.RawTrees.{TypeParts, type_layer, of_every_type}
use Rattle.c_language.specs.Spellings.{is_own_name, is_constant}
use Rattle.c_language.specs.TypeGrammar.{is_written, written_step}
use Rattle.c_language.specs.ExprGrammar.{conditional_level}
use Rattle.c_language.specs.Nesting.{length_nesting, type_nesting}
use Rattle.c_language.specs.Syntax.{is_expr, Extent, bare, starred, sized, listed, takes_stars, takes_lengths, takes_list, reaches_step, reaches, is_declared, is_begun}
use Rattle.c_language.proofs.NestingLemmas.{nesting-Constant, type_nesting-PointerTo, type_nesting-Array}
use Rattle.c_language.proofs.Tests.{false_true}
use Rattle.c_scope_laws.specs.ThinnedBodies.{counted_length, counted_type_step, counted_type}
use Rattle.text_syntax.proofs.Equations.{binds-Constant, reaches-Integer, reaches-Struct, reaches-PointerTo, reaches-Array}
use Rattle.thinned_syntax.specs.Left.{counted, IsCounted}

module _ (n : ℕ) where
  pub counted-Integer : (t : IntType) → counted_type n (type.Integer t) ≡ type.Integer t
  counted-Integer t = ap (counted_type n) (sym (type.rolls-Integer t)) ∙ fold-roll-RawType RawType (counted_type_step n) (RawType-F.Integer t)

-- ---- syntax

-- how far a type goes once all its lengths are written
abbrev written_out : Extent → Extent
written_out bare = bare
written_out starred = starred
written_out sized = sized
written_out listed = sized

out_stars : (x : Extent) → takes_stars x ≡ true → takes_stars (written_out x) ≡ true
out_stars bare h = h
out_stars starred h = h
out_stars sized h = h
out_stars listed h = h

out_lengths : (x : Extent) → takes_lengths x ≡ true → takes_lengths (written_out x) ≡ true
out_lengths bare h = h
out_lengths starred h = h
out_lengths sized h = h
out_lengths listed h = h

list_lengths : (x : Extent) → takes_list x ≡ true → takes_lengths (written_out x) ≡ true
list_lengths bare h = false_true h
list_lengths starred h = false_true h
list_lengths sized h = false_true h
list_lengths listed h = refl

module _ (n : ℕ) where
  abbrev IsConstantIf : Bool → Type 0
  IsConstantIf b = b ≡ false → is_constant (decimal n) ≡ true

  abbrev Reaches : RawType → Type 0
  Reaches a = (x : Extent) → reaches a x ≡ true → IsConstantIf (is_written a) → reaches (counted_type n a) (written_out x) ≡ true

  layer_reaches : (y : TypeParts Reaches) (x : Extent) → reaches_step (map-RawType RawType (Extent → Bool) reaches (type_layer Reaches y)) x ≡ true
      → IsConstantIf (written_step (map-RawType RawType Bool is_written (type_layer Reaches y)))
      → reaches (counted_type_step n (map-RawType RawType RawType (counted_type n) (type_layer Reaches y))) (written_out x) ≡ true
  layer_reaches (RawType-F.Integer t) x h k = reaches-Integer t (written_out x)
  layer_reaches (RawType-F.Struct tag) x h k = reaches-Struct tag (written_out x) ∙ h
  layer_reaches (RawType-F.PointerTo a) x h k =
      let p = and_parts (takes_stars x) (reaches a.0 starred) h in
      reaches-PointerTo (counted_type n a.0) (written_out x) ∙ and_from _ _ (out_stars x p.0) (a.1 starred p.1 k)
  layer_reaches (RawType-F.Array a (Written e)) x h k =
      let p = and_parts (takes_lengths x) _ h in
      let q = and_parts (reaches a.0 sized) (is_expr e) p.1 in
      reaches-Array (counted_type n a.0) (Written e) (written_out x) ∙ and_from _ _ (out_lengths x p.0) (and_from _ _ (a.1 sized q.0 k) q.1)
  layer_reaches (RawType-F.Array a Listed) x h k =
      let p = and_parts (takes_list x) (reaches a.0 sized) h in
      reaches-Array (counted_type n a.0) (Written (e.Constant (decimal n))) (written_out x)
      ∙ and_from _ _ (list_lengths x p.0) (and_from _ _ (a.1 sized p.1 (λ f. k refl)) (binds-Constant (decimal n) conditional_level ∙ k refl))

  counted_reaches : (a : RawType) → Reaches a
  counted_reaches = of_every_type Reaches (λ y x h k.
      ap (λ (a : RawType). reaches a (written_out x)) (fold-roll-RawType RawType (counted_type_step n) (type_layer Reaches y))
      ∙ layer_reaches y x (ap (λ (f : Extent → Bool). f x) (sym (fold-roll-RawType (Extent → Bool) reaches_step (type_layer Reaches y))) ∙ h)
      (λ f. k (fold-roll-RawType Bool written_step (type_layer Reaches y) ∙ f)))

-- a variable whose initialiser is taken away is declared
pub counted_declared : (n : ℕ) (v : RawVar) (i : RawInit) → IsCounted n v → is_begun v i ≡ true → is_declared (counted n v) sized ≡ true
counted_declared n v init.None k h = let p = and_parts (is_own_name v.name) (reaches v.shape sized) h in and_from _ _ p.0 (counted_reaches n v.shape sized p.1 k)
counted_declared n v (init.One a) k h =
    let p = and_parts (is_own_name v.name) (reaches v.shape sized) (and_parts (is_declared v sized) (is_expr a) h).0 in
    and_from _ _ p.0 (counted_reaches n v.shape sized p.1 k)
counted_declared n v (init.Items all) k h =
    let p = and_parts (is_own_name v.name) (reaches v.shape listed) (and_parts (is_declared v listed) _ h).0 in
    and_from _ _ p.0 (counted_reaches n v.shape listed p.1 k)

-- ---- nesting

module _ (n : ℕ) where
  length_nests : (l : RawLength) → length_nesting (counted_length n l) ≡ length_nesting l
  length_nests (Written a) = refl
  length_nests Listed = nesting-Constant (decimal n)

  abbrev TypeNests : RawType → Type 0
  TypeNests a = type_nesting (counted_type n a) ≡ type_nesting a

  layer_nests : (y : TypeParts TypeNests) → type_nesting (counted_type_step n (map-RawType RawType RawType (counted_type n) (type_layer TypeNests y))) ≡ type_nesting (roll-RawType (type_layer TypeNests y))
  layer_nests (RawType-F.Integer i) = ap type_nesting (sym (type.rolls-Integer i))
  layer_nests (RawType-F.PointerTo a) = type_nesting-PointerTo (counted_type n a.0) ∙ ap (λ (m : ℕ). 1 + m) a.1 ∙ sym (type_nesting-PointerTo a.0) ∙ ap type_nesting (sym (type.rolls-PointerTo a.0))
  layer_nests (RawType-F.Array a l) =
      type_nesting-Array (counted_type n a.0) (counted_length n l) ∙ ap₂ (λ (m j : ℕ). 1 + max m j) (length_nests l) a.1 ∙ sym (type_nesting-Array a.0 l) ∙ ap type_nesting (sym (type.rolls-Array a.0 l))
  layer_nests (RawType-F.Struct tag) = ap type_nesting (sym (type.rolls-Struct tag))

  -- and its type nests as deep
  pub counted_nests : (a : RawType) → TypeNests a
  counted_nests = of_every_type TypeNests (λ y. ap type_nesting (fold-roll-RawType RawType (counted_type_step n) (type_layer TypeNests y)) ∙ layer_nests y)
