use Rattle.std.proofs.Common.{rules, ◌≡◌, ℕ, [], ◌∷◌, ◌++◌, length, Option, refl}
use Rattle.std.specs.Prelude.{is_some, option_and_then, vec_len}
use Rattle.c_tree.specs.declared.raw.program.RawMember.{RawMember}
use Rattle.c_language.specs.DeclaredTypes.{written_type}
use Rattle.c_language.specs.ExprTypes.{member_of}
use Rattle.c_types_base.specs.Names.{listed_type}
use Rattle.c_types_base.specs.declared.names.StructMembers.{StructMembers}
use Rattle.c_types_base.proofs.TableLaws.{pushed}
use Rattle.c_types_base.proofs.tables.Tables.complete.Goals as goal

pub returns : goal.returns
returns c =
    let raw = c.args.self.now.raw.now in
    let old = c.args.self.now.structs in
    let new = c.push.new.self in
    let size : vec_len old ≡ length old.items = search rules in
    let is : new.items ≡ old.items ++ c.args.listed ∷ [] = search rules in
    let now : vec_len new ≡ length new.items = search rules in
    record {
      scope_is = search rules;
      text = refl;
      right = λ r. record {
        text = r.text;
        defined = r.defined;
        stdio = r.stdio;
        stdlib = r.stdlib;
        listed = λ s name. pushed (λ (k : ℕ) (at : Option StructMembers). is_some (option_and_then (listed_type name) at) ≡ is_some (member_of raw k name))
            old.items new.items c.args.listed (vec_len old) (vec_len new) size is now (λ k below. r.listed k name below) (c.requires.there name) s;
        typed = λ s name. pushed (λ (k : ℕ) (at : Option StructMembers). option_and_then (listed_type name) at ≡ option_and_then (λ (m : RawMember). written_type raw m.shape) (member_of raw k name))
            old.items new.items c.args.listed (vec_len old) (vec_len new) size is now (λ k below. r.typed k name below) (c.requires.types name) s;
      };
    }
