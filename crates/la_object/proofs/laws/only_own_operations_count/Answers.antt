use Rattle.la_object.specs.Objects.{is_of_kind, is_of_some_kind, kind_of}
use Rattle.la_object.proofs.OwnOperations.{value-kept, tags_by-kept, steps-kept, of_no_kind}
use Rattle.la_object.proofs.laws.only_own_operations_count.Goals as goal

pub returns-clause-own : goal.returns-clause-own
returns-clause-own c kind us query = value-kept kind (λ u. is_of_kind kind u.op) (λ u not. not) us query

pub returns-clause-own_tags : goal.returns-clause-own_tags
returns-clause-own_tags c kind us x = tags_by-kept kind (λ u. is_of_kind kind u.op) (λ u not. not) us x

pub returns-clause-own_steps : goal.returns-clause-own_steps
returns-clause-own_steps c s us = steps-kept (λ u. is_of_kind (kind_of s) u.op) s (λ u not. not) us

pub returns-clause-marks : goal.returns-clause-marks
returns-clause-marks c kind us query =
    value-kept kind (λ u. is_of_some_kind u.op) (λ u not. of_no_kind kind u.op not) us query

pub returns-clause-mark_tags : goal.returns-clause-mark_tags
returns-clause-mark_tags c kind us x =
    tags_by-kept kind (λ u. is_of_some_kind u.op) (λ u not. of_no_kind kind u.op not) us x

pub returns-clause-mark_steps : goal.returns-clause-mark_steps
returns-clause-mark_steps c s us =
    steps-kept (λ u. is_of_some_kind u.op) s (λ u not. of_no_kind (kind_of s) u.op not) us
