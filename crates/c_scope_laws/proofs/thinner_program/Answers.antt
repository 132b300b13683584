use Rattle.c_scope_laws.specs.ThinnedTexts.{thinned_text}
use Rattle.c_scope_laws.proofs.ItemWalking.{thinner_keeps}
use Rattle.c_scope_laws.proofs.ProgramThinning.{program_thins}
use Rattle.c_scope_laws.proofs.ThinnedTexts.{text_left}
use Rattle.c_scope_laws.proofs.thinner_program.Goals as goal

pub returns : goal.returns
returns c = λ k raw p names keeps closed at.
    let other = thinned_text k raw in
    let thin = text_left k raw keeps closed in
    record {
      rules = λ number line broken. thinner_keeps k raw other thin keeps number line broken;
      program = program_thins k raw other p names thin keeps at;
    }
