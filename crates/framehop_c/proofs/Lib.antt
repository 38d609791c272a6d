mod Limited
mod Needed
mod Nexts
mod ObjectBox
mod RuleWordsAarch64
mod RuleWordsX86_64
mod Stops
