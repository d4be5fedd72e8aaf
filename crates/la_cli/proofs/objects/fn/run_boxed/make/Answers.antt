use Rattle.std.proofs.Common.{◌∙◌, ap}
use denote.Param.Object.{read_made}
use Rattle.la_object.specs.declared.state.State.{State}
use Rattle.la_object.specs.declared.state.State.TheVariants.{Set}
use Rattle.la_orset.specs.Puts.{adds_of, gone_of}
use Rattle.la_cli.proofs.objects.fn.run_boxed.make.Hides.{has-1-1, dyn-1}
use Rattle.la_cli.proofs.objects.fn.run_boxed.make.Goals as goal

-- what a box of a set reads as
pub numbered-requires-clause-set : goal.numbered-requires-clause-set
unfolding dyn-1
numbered-requires-clause-set g c κs =
    read_made g.dyn-1.0 _ _ ((has-1-1 g.dyn-1.0 g.dyn-1-has).same tt) State (λ j d. j.1.state d) _ _
    c.in_ok-new.field-0.value c.into_dyn_box.ensures.1
    ∙ ap (λ s. Set (adds_of s.puts) (gone_of s.early s.puts)) c.in_ok-new.ensures.ok ∙ c.new.ensures
