use Rattle.la_own.proofs.Reading.{bytes_of-own, own-distinct, bytes_of-made}
use Rattle.la_own.proofs.laws.bytes_come_back.Goals as goal

pub returns-clause-read : goal.returns-clause-read
returns-clause-read c = bytes_of-own

pub returns-clause-distinct : goal.returns-clause-distinct
returns-clause-distinct c = own-distinct

pub returns-clause-made : goal.returns-clause-made
returns-clause-made c = bytes_of-made
