-- The types of declarations that break no rule are there.
use Rattle.std.proofs.Common.{◌≡◌, Option, Some, None, subst}
use Rattle.c_tree.specs.declared.types.CType.{CType}
use Rattle.c_tree.specs.declared.raw.expr.RawType.{RawType}
use Rattle.c_tree.specs.declared.raw.program.RawMember.{RawMember}
use Rattle.c_tree.specs.declared.raw.program.RawHead.{RawHead}
use Rattle.c_tree.specs.declared.raw.program.RawProgram.{RawProgram}
use Rattle.c_language.specs.Phrases.{DeclaresFunction}
use Rattle.c_language.specs.ProgramOf.{ctype, ctype_with, ctype_if, optional}
use Rattle.c_language.proofs.Options.{some_same, none_there}
use Rattle.c_types_trees.specs.KeptPhrases.{IsKeptMember, IsKeptHead, HasNoLength, HasNoLengthIf}
use Rattle.c_types_trees.proofs.PhraseTrees.{tag_defined, result_made, member_made}
use Rattle.c_language.specs.Options.{IsThere}

module _ (raw : RawProgram) where
  pub member_given : (m : RawMember) → IsKeptMember raw m → IsThere (ctype_with raw 0 m.shape)
  member_given m h = (member_made raw h.scope h.before m h.kept).tree

  given_inside : (t : RawType) → IsThere (optional (Some (ctype raw t))) → IsThere (ctype raw t)
  given_inside t h = at_value (ctype raw t) h
    where
      at_value : (o : Option CType) → IsThere (optional (Some o)) → IsThere o
      at_value None h = h
      at_value (Some x) h = tt

  result_given : (head : RawHead) → HasNoLengthIf head.result → IsKeptHead raw head → IsThere (ctype_if raw head.result)
  result_given head plain h =
      (result_made raw head.result plain (tag_defined raw h.scope (DeclaresFunction head h.is_definition) h.kept))

  -- the type of a result
  pub own_result : (head : RawHead) (t : RawType) → head.result ≡ Some t → HasNoLengthIf head.result → IsKeptHead raw head → IsThere (ctype raw t)
  own_result head t is plain h = given_inside t (subst (λ r. IsThere (ctype_if raw r)) is (result_given head plain h))

  pub own_plain : (r : Option RawType) (t : RawType) → r ≡ Some t → HasNoLengthIf r → HasNoLength t
  own_plain None t is plain = none_there is
  own_plain (Some u) t is plain = subst HasNoLength (some_same is) plain
