use Rattle.std.proofs.Common.{◌≡◌, ℕ, List, Option, None, refl, inl, inr, arith}
use Rattle.std.specs.Prelude.{codes}
use Rattle.deneva_top.specs.Calls.{Answers}
use Rattle.deneva_top.proofs.calls.deneva.Goals as goal

-- out of memory is an answer to everything
memory_answers : (words : List (List ℕ)) (bytes bytes_now : Option (List ℕ)) (before now : ℕ) → Answers words bytes bytes_now before now 1 None (codes "fault,memory\n")
memory_answers words bytes bytes_now before now =
    record {
      known = omega arith;
      report = λ e. absurd (omega (arith, e));
      no_run = λ e. refl;
      memory = λ e. refl;
      refused = λ e. absurd (omega (arith, e));
      input = λ e. absurd (omega (arith, e));
      read = λ e. absurd (omega (arith, e));
    }

pub returns-in-Err-clause-write : goal.returns-in-Err-clause-write
returns-in-Err-clause-write g c = λ is.
    let sent = c.send_no_memory.ensures.failed is in
    (sent.0, (1, sent.1.0, None, codes "fault,memory\n", memory_answers _ _ _ _ _, sent.1.1, sent.1.2))

pub returns-in-Ok-clause-write : goal.returns-in-Ok-clause-write
returns-in-Ok-clause-write g c = λ is.
    let told = c.in-Ok.ensures.answer in
    elim (c.send.ensures.failed is) [
      | inl e ↦ absurd (omega (arith, e, told.known))
      | inr sent ↦ (sent.1, (c.in-Ok.answer.status, sent.2.0, c.in-Ok.answer.run, c.in-Ok.answer.text, told, sent.2.1, sent.2.2))
    ]
