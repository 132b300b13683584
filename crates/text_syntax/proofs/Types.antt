-- Types that go no further than stars: no length stands in them.
use Rattle.std.proofs.Common.{◌≡◌, Bool, true, false, refl, sym, ap, subst, ◌∙◌}
use Rattle.std.proofs.lemmas.Bool.{and_parts}
use Rattle.c_tree.specs.declared.raw.expr.RawLength.TheVariants.{Written, Listed}
use Rattle.c_tree.specs.declared.raw.expr.RawType.{RawType, roll-RawType, map-RawType, fold-roll-RawType}
use Rattle.c_tree.specs.declared.raw.expr.RawType.TheOpen.{RawType-F}
use Rattle.c_tree.specs.declared.raw.expr.RawType.TheVariants as type
use Rattle.c_tree.proofs.RawTrees.{TypeParts, type_layer, of_every_type}
use Rattle.c_language.specs.Syntax.{Extent, starred, takes_stars, takes_lengths, takes_list, listed, sized, bare, reaches_step, reaches}
use Rattle.c_language.proofs.PlainTypes.{IsPlain}
use Rattle.c_language.proofs.Tests.{false_true}

abbrev Short : RawType → Type 0
Short a = (x : Extent) → takes_lengths x ≡ false → reaches a x ≡ true → IsPlain a

no_list : (x : Extent) → takes_lengths x ≡ false → takes_list x ≡ false
no_list bare h = h
no_list starred h = h
no_list sized h = absurd cc
no_list listed h = absurd cc

layer_plain : (y : TypeParts Short) (x : Extent) → takes_lengths x ≡ false → reaches_step (map-RawType RawType (Extent → Bool) reaches (type_layer Short y)) x ≡ true → IsPlain (roll-RawType (type_layer Short y))
layer_plain (RawType-F.Integer t) x n h = subst IsPlain (sym (type.rolls-Integer t)) IsPlain.integer
layer_plain (RawType-F.Struct tag) x n h = subst IsPlain (sym (type.rolls-Struct tag)) IsPlain.structure
layer_plain (RawType-F.PointerTo a) x n h = subst IsPlain (sym (type.rolls-PointerTo a.0)) (IsPlain.pointer (a.1 starred refl (and_parts (takes_stars x) (reaches a.0 starred) h).1))
layer_plain (RawType-F.Array a (Written e)) x n h = false_true (sym n ∙ (and_parts (takes_lengths x) _ h).0)
layer_plain (RawType-F.Array a Listed) x n h = false_true (sym (no_list x n) ∙ (and_parts (takes_list x) (reaches a.0 sized) h).0)

-- a type that takes no lengths is a base with stars
pub plain_type : (a : RawType) (x : Extent) → takes_lengths x ≡ false → reaches a x ≡ true → IsPlain a
plain_type = of_every_type Short (λ y x n h. layer_plain y x n (ap (λ (f : Extent → Bool). f x) (sym (fold-roll-RawType (Extent → Bool) reaches_step (type_layer Short y))) ∙ h))
