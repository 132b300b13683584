-- Types that no length stands in, as the grammar reads them before declarators.
use Rattle.std.proofs.Common.{◌≡◌, [], ◌∙◌}
use Rattle.c_arith.specs.declared.int_type.IntType.{IntType}
use Rattle.c_tree.specs.declared.raw.expr.RawType.{RawType}
use Rattle.c_tree.specs.declared.raw.expr.RawType.TheVariants as type
use Rattle.c_language.specs.Words.{Bytes}
use Rattle.c_language.specs.TokenForms.{Tokens}
use Rattle.c_language.specs.TypeGrammar.{IsBase, IsStars, IsTypeName}
use Rattle.c_language.specs.Uses.{lengths_in}
use Rattle.c_language.proofs.UseLemmas.{lengths-Integer, lengths-PointerTo, lengths-Struct}

-- a type that no length stands in: a base with stars
pub data IsPlain : RawType → Type 0 where
  integer : {t : IntType} → IsPlain (type.Integer t)
  structure : {tag : Bytes} → IsPlain (type.Struct tag)
  pointer : {a : RawType} → IsPlain a → IsPlain (type.PointerTo a)

pub has_no_length : {a : RawType} → IsPlain a → lengths_in a ≡ []
has_no_length (IsPlain.integer {t = i}) = lengths-Integer i
has_no_length (IsPlain.structure {tag = w}) = lengths-Struct w
has_no_length (IsPlain.pointer {a} h) = lengths-PointerTo a ∙ has_no_length h

pub base_plain : {ts rest : Tokens} {a : RawType} → IsBase ts a rest → IsPlain a
base_plain (IsBase.structure key) = IsPlain.structure
base_plain (IsBase.integer h) = IsPlain.integer

stars_plain : {ts rest : Tokens} {a b : RawType} → IsStars ts a b rest → IsPlain a → IsPlain b
stars_plain (IsStars.done h) k = k
stars_plain (IsStars.star h) k = stars_plain h (IsPlain.pointer k)

pub name_plain : {ts rest : Tokens} {a : RawType} → IsTypeName ts a rest → IsPlain a
name_plain (IsTypeName.pointed h k) = stars_plain k (base_plain h)
