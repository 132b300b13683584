use Rattle.std.proofs.Common.{rules, ◌≡◌, Some, None, option_and_then, slice_get, sym, ap, ◌∙◌}
use Rattle.c_language.specs.DeclaredTypes.{struct_texts}
use Rattle.c_types_base.specs.declared.numbering.Numbering.{Numbering}
use Rattle.c_types_base.specs.Numbering.{number_in}
use Rattle.c_types_base.proofs.MemberTrees.{places}
use Rattle.c_types_base.proofs.definitions.Definitions.place_of_member.Goals as goal

pub returns-in-None : goal.returns-in-None
returns-in-None c =
    let none : slice_get c.args.self.now.members c.args.owner ≡ None = search rules in
    ap (option_and_then (λ (n : Numbering). number_in n c.args.name.now)) (sym none)
    ∙ places (struct_texts c.args.self.now.raw.now.items) c.args.self.now.members c.args.name.now c.args.owner c.requires.members

pub returns-in-Some : goal.returns-in-Some
returns-in-Some c =
    let some : slice_get c.args.self.now.members c.args.owner ≡ Some c.in-Some.places.now = search rules in
    c.get-in-Some.ensures ∙ ap (option_and_then (λ (n : Numbering). number_in n c.args.name.now)) (sym some)
    ∙ places (struct_texts c.args.self.now.raw.now.items) c.args.self.now.members c.args.name.now c.args.owner c.requires.members
