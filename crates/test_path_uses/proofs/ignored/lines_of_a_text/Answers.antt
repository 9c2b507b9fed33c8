use Rattle.test_path_uses.proofs.ignored.lines_of_a_text.Goals as goal

pub returns : goal.returns
returns g c = λ folds text a b h k. (
  λ reason s. c.never_both.ensures folds text a reason h s,
  λ path is_dir n m. n ((c.one_meaning.ensures folds text a b h k).1 path is_dir m),
)
