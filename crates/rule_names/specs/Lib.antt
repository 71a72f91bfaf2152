pub mod RuleNames
