use Rattle.os_str_bytes.proofs.laws.platforms.Goals as goal

pub returns-clause-windows : goal.returns-clause-windows
returns-clause-windows c = record {
  well_formed = λ b. (λ x. x, λ x. x);
  units = λ b us. let e = c.functions.ensures.units b us in (e.1, e.0);
  unit_lists = λ us. (λ x. x, λ x. x);
  first_fault = λ b f. (λ x. x, λ x. x);
  io_safe = λ b. (λ x. x, λ x. x);
  lossy = c.functions.ensures.lossy;
  replaces = λ b n. (λ x. x, λ x. x);
  part_units = λ us. (λ x. x, λ x. x);
}

pub returns-clause-unix : goal.returns-clause-unix
returns-clause-unix c = record {
  well_formed = λ b. (λ x. x, λ x. x);
  units = λ b us. (λ x. x, λ x. x);
  unit_lists = λ us. (λ x. x, λ x. x);
  first_fault = λ b f. (λ x. x, λ x. x);
  io_safe = λ b. (λ x. x, λ x. x);
  lossy = λ b h. c.lossy_text.ensures.is_std b;
  replaces = λ b n. (λ x. x, λ x. x);
  part_units = λ us. (λ x. x, λ x. x);
}
